-- 01, "Sizes", and the codes of its refusal 6, by name, as the tests of the refusals and of the shapes ask for them. "All sizes are inclusive." Assumes nothing.
use Rattle.std.specs.Prelude.{ℕ}

-- "Rules 0 to 256,
abbrev pub RULES : ℕ
RULES = 256

-- direct styles 0 to 64,
abbrev pub STYLES : ℕ
STYLES = 64

-- steps in a selector 0 to 8,
abbrev pub STEPS : ℕ
STEPS = 8

-- required classes and required pseudos 0 to 8 each as given,
abbrev pub STEP-IDS : ℕ
STEP-IDS = 8

-- a subject's classes and pseudos 0 to 16 each as given,
abbrev pub SUBJECT-IDS : ℕ
SUBJECT-IDS = 16

-- entries in a style 0 to 32,
abbrev pub STYLE-ENTRIES : ℕ
STYLE-ENTRIES = 32

-- path for matching or diagnosis 0 to 32.
abbrev pub PATH : ℕ
PATH = 32

-- In a whole sheet: required ids 0 to 8,192,
abbrev pub SHEET-IDS : ℕ
SHEET-IDS = 8192

-- entries 0 to 4,096, as held.
abbrev pub SHEET-ENTRIES : ℕ
SHEET-ENTRIES = 4096

-- Source indexes go to 65,535,
abbrev pub SOURCE-INDEX : ℕ
SOURCE-INDEX = 65535

-- the next one to 65,536.
abbrev pub NEXT-INDEX : ℕ
NEXT-INDEX = 65536

-- .. property ids u16": to 65,535,
abbrev pub PROPERTY-ID : ℕ
PROPERTY-ID = 65535

-- so many there are
abbrev pub PROPERTY-IDS : ℕ
PROPERTY-IDS = 65536

-- "States (at most 512)"
abbrev pub STATES : ℕ
STATES = 512

-- "an origin rank is over 7,
abbrev pub ORIGIN : ℕ
ORIGIN = 7

-- the ranking
abbrev pub RANKING : ℕ
RANKING = 1

-- or a combinator code over 1,
abbrev pub COMBINATOR : ℕ
COMBINATOR = 1

-- or an entry kind over 3"
abbrev pub ENTRY-KIND : ℕ
ENTRY-KIND = 3
