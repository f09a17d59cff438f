-- A step's or a subject's row, item by item: 01, records 6 and 9. Assumes nothing.
use Rattle.std.specs.Prelude.{Bool, cond, false, List, [], ◌∷◌, ℕ, ◌+◌, get_or, set, replicate, eqb, ltb}
use Rattle.std.proofs.lemmas.List.Edits.{sets}

-- A row has room for `size` classes and `size` pseudos (selector's Rows): how many words it has, and one without tags and ids
abbrev pub row_words : ℕ → ℕ
row_words size = 6 + (size + size)

abbrev pub empty_row : ℕ → List ℕ
empty_row size = replicate (row_words size) 0

-- "which 1 (0 type, 1 part, 2 class, 3 pseudo)": of 2 and 3, where their count stands and where the ids begin
abbrev pub count_place : ℕ → ℕ
count_place which = cond (eqb which 2) 4 5

abbrev pub id_place : ℕ → ℕ → ℕ
id_place size which = cond (eqb which 2) 6 (6 + size)

-- of 0 and 1, where its flag stands, and its number after that
abbrev pub tag_place : ℕ → ℕ
tag_place which = cond (eqb which 0) 0 2

-- "A second type or part replaces the first."
abbrev pub with_tag : ℕ → ℕ → List ℕ → List ℕ
with_tag which id row = sets row (tag_place which) (1 ∷ id ∷ [])

-- a class or a pseudo comes after those that were given
abbrev pub with_id : ℕ → ℕ → ℕ → List ℕ → List ℕ
with_id size which id row =
    let n = get_or row (count_place which) 0 in
    set (set row (id_place size which + n) id) (count_place which) (n + 1)

unfoldable pub with_item : ℕ → ℕ → ℕ → List ℕ → List ℕ
with_item size which id row = cond (ltb which 2) (with_tag which id row) (with_id size which id row)

-- "a count at the record that brings it over its size", as given
unfoldable pub item_over : ℕ → ℕ → List ℕ → Bool
item_over size which row = cond (ltb which 2) false (ltb size (get_or row (count_place which) 0 + 1))
