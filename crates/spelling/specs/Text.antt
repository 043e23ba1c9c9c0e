-- What items spell: the bytes of an input.
use Rattle.std.specs.Prelude.{◌≡◌, ℕ, zero, suc, ◌+◌, ◌-◌, ◌^◌, ◌<◌, min, ◌⊎◌, List, [], ◌∷◌, ◌++◌, length, take, codes, vec_items, Some, None, Option, unwrap_or, ⊤}
use Rattle.std.specs.Borrow.{Bor}
use Rattle.std.specs.Int.{w16, w32, to_be_bytes}
use Rattle.std.specs.Iterator.{Drains}
use Rattle.std.specs.Str.Iter.{split_whitespace_rest, split_whitespace_steps}
use Rattle.std.specs.Str.Parse.{IsNumeral, digits_value, without_leading_plus}
use Rattle.std.specs.declared.str.SplitWhitespace.{SplitWhitespace}
use Rattle.spelling.specs.declared.text.Draft.{Draft}
use Rattle.spelling.specs.declared.text.Item.{Item}
use Rattle.spelling.specs.declared.text.Item.TheVariants.{Numbers, Byte, Bar, Version, Length, Given}

-- A word writes a number that has so many bits, in decimal digits, which a plus may lead.
pub record Writes (bits : ℕ) (word : List ℕ) (number : ℕ) : Type 0 where
  pub digits : IsNumeral 10 (without_leading_plus word)
  pub value : digits_value 10 (without_leading_plus word) ≡ number
  pub room : number < 2 ^ bits

-- A word is this text and a number.
abbrev pub IsTagged : List ℕ → ℕ → List ℕ → ℕ → Type 0
IsTagged tag bits word number = (rest : List ℕ) × (word ≡ tag ++ rest) × Writes bits rest number

-- A word is a number, or how often and a number, with a star between.
abbrev pub AreNumbers : List ℕ → (times number : ℕ) → Type 0
AreNumbers word times number =
    ((times ≡ 1) × Writes 16 word number)
    ⊎ ((front : List ℕ) × (back : List ℕ) × (word ≡ front ++ (codes "*" ++ back)) × Writes 16 front times × Writes 16 back number)

-- The item that a word is.
abbrev pub IsItem : List ℕ → Item → Type 0
IsItem word (Numbers times number) = AreNumbers word times number
IsItem word (Byte byte) = IsTagged (codes "byte=") 8 word byte
IsItem word Bar = word ≡ codes "|"
IsItem word (Version version) = IsTagged (codes "version=") 8 word version
IsItem word (Length length) = IsTagged (codes "length=") 32 word length
IsItem word (Given given) = IsTagged (codes "given=") 64 word given

-- What items tell: the version, what follows it, the length to state, if they tell one, and how many bytes are given, likewise.
pub record Told : Type 0 where
  pub version : ℕ
  pub rest : List ℕ
  pub stated : Option ℕ
  pub given : Option ℕ

-- what a draft holds
abbrev pub told_by : Draft → Told
told_by d = record { version = d.version; rest = vec_items d.rest; stated = d.length; given = d.given }

-- Where no item tells anything, the version is 1.
abbrev pub nothing_told : Told
nothing_told = record { version = 1; rest = []; stated = None; given = None }

-- the bytes, so many times
abbrev pub repeated : ℕ → List ℕ → List ℕ
repeated zero bs = []
repeated (suc n) bs = repeated n bs ++ bs

-- What one item more tells. A number is two bytes, the high byte first.
abbrev pub with_item : Item → Told → Told
with_item (Numbers times number) t = record { version = t.version; rest = t.rest ++ repeated times (to_be_bytes w16 number); stated = t.stated; given = t.given }
with_item (Byte byte) t = record { version = t.version; rest = t.rest ++ (byte ∷ []); stated = t.stated; given = t.given }
with_item Bar t = t
with_item (Version version) t = record { version = version; rest = t.rest; stated = t.stated; given = t.given }
with_item (Length length) t = record { version = t.version; rest = t.rest; stated = Some length; given = t.given }
with_item (Given given) t = record { version = t.version; rest = t.rest; stated = t.stated; given = Some given }

-- one item after another
abbrev pub with_items : List Item → Told → Told
with_items [] t = t
with_items (item ∷ later) t = with_items later (with_item item t)

-- The right length is that of the version and what follows it; one that has no room in four bytes is the largest that has.
abbrev pub stated_length : Told → ℕ
stated_length t = unwrap_or t.stated (min (length t.rest + 1) (2 ^ 32 - 1))

-- the first so many bytes, or all of them
abbrev pub first_bytes : Option ℕ → List ℕ → List ℕ
first_bytes None bs = bs
first_bytes (Some n) bs = take n bs

-- The input: the length in four bytes, the high byte first, the version and what follows it, as far as it is given.
abbrev pub input_of : Told → List ℕ
input_of t = first_bytes t.given (to_be_bytes w32 (stated_length t) ++ (t.version ∷ t.rest))

-- The words of a text, which white space parts.
abbrev pub AreWordsOf : List ℕ → List (Bor (List ℕ)) → Type 0
AreWordsOf text words = (it : SplitWhitespace) × (split_whitespace_rest it ≡ text) × Drains split_whitespace_steps it words

-- Each word is an item.
abbrev pub AreItems : List (Bor (List ℕ)) → List Item → Type 0
AreItems [] [] = ⊤
AreItems [] (item ∷ items) = ⊥
AreItems (word ∷ words) [] = ⊥
AreItems (word ∷ words) (item ∷ items) = IsItem word.now item × AreItems words items

-- The bytes are the input that the words of the text spell, item by item.
pub record Spells (text bytes : List ℕ) : Type 0 where
  pub words : List (Bor (List ℕ))
  pub items : List Item
  pub are_words : AreWordsOf text words
  pub are_items : AreItems words items
  pub input : bytes ≡ input_of (with_items items nothing_told)
