-- The laws of numbers, for the crates above.
use Rattle.std.specs.Prelude.{◌≡◌, ◌↔◌, ◌≤◌, ◌<◌, ◌^◌, ℕ, ℤ, true, List, Some, unsigned_abs}
use Rattle.std.specs.declared.cmp.Ordering.TheVariants.{Equal}
use Rattle.std.specs.Fmt.{signed_decimal}
use Rattle.std.specs.Int.{cast_unsigned, w64}
use Rattle.std.specs.Ordering.{int_cmp, int_eq}
use Rattle.rj_columns.specs.Numbers.{Number, whole_number}
use Rattle.rj_columns.specs.NumberOrder.{are_same, ordered}
use Rattle.rj_columns.specs.LeastNumbers.{IsLeast, hash_of, least_of}
use Rattle.rj_columns.specs.NumbersRead.{number_in, numeric_of}
use Rattle.rj_columns.specs.NumbersWritten.{text_of}
use Rattle.rj_columns.proofs.LeastNumbers as leasts
use Rattle.rj_columns.proofs.NumberOrders as orders
use Rattle.rj_columns.proofs.NumbersReadBack as trips
use Rattle.rj_columns.proofs.NumberTexts as texts
use Rattle.rj_columns.proofs.NumberValues as values

-- to be one value is reflexive, symmetric and transitive
pub same-reflexive : (x : Number) → are_same x x ≡ true
same-reflexive x = orders.are_same-reflexive x

pub same-symmetric : (x y : Number) → are_same x y ≡ true → are_same y x ≡ true
same-symmetric x y e = orders.are_same-symmetric x y e

pub same-transitive : (x y z : Number) → are_same x y ≡ true → are_same y z ≡ true → are_same x z ≡ true
same-transitive x y z e f = orders.are_same-transitive x y z e f

-- numbers are one value exactly where their order says equal
pub ordered-equal : (x y : Number) → (ordered x y ≡ Equal) ↔ (are_same x y ≡ true)
ordered-equal x y = orders.ordered-equal x y

-- whole numbers compare as they are
pub ordered-whole : (m n : ℤ) → ordered (whole_number m) (whole_number n) ≡ int_cmp m n
ordered-whole m n = orders.ordered-whole m n

pub same-whole : (m n : ℤ) → are_same (whole_number m) (whole_number n) ≡ int_eq m n
same-whole m n = orders.are_same-whole m n

-- a value has one least form: the same value, without a zero at the end of its digits after the point
pub least-same : (x : Number) → are_same x (least_of x) ≡ true
least-same x = leasts.least-value x

pub least-least : (x : Number) → IsLeast (least_of x)
least-least x = leasts.least-least x

pub same-least : (x y : Number) → (are_same x y ≡ true) ↔ (least_of x ≡ least_of y)
same-least x y = leasts.same-least x y

-- the hash law: one value, one hash, whatever the scales
pub hash-same : (x y : Number) → are_same x y ≡ true → hash_of x ≡ hash_of y
hash-same x y e = leasts.hash-same x y e

-- the hash of a whole number is the number modulo 2^64
pub hash-whole : (v : ℤ) → hash_of (whole_number v) ≡ cast_unsigned w64 v
hash-whole v = leasts.hash-whole v

-- a reading has the value that its text writes, and fits its type
pub reading-same : (precision scale : ℕ) (text : List ℕ) (u : ℤ) → Some u ≡ numeric_of precision scale text → are_same (number_in text) (record { units = u; scale = scale }) ≡ true
reading-same precision scale text u e = values.units_value precision scale text u e

pub reading-small : (precision scale : ℕ) (text : List ℕ) (u : ℤ) → Some u ≡ numeric_of precision scale text → unsigned_abs u < 10 ^ precision
reading-small precision scale text u e = values.units-small precision scale text u e

-- what is written is read back
pub reading-written : (precision scale : ℕ) (u : ℤ) → precision ≤ 18 → unsigned_abs u < 10 ^ precision → numeric_of precision scale (text_of scale u) ≡ Some u
reading-written precision scale u limit small = trips.written_back precision scale u limit small

-- in scale 0 the text is that of a whole number
pub text-whole : (u : ℤ) → text_of 0 u ≡ signed_decimal u
text-whole u = texts.text-whole u
