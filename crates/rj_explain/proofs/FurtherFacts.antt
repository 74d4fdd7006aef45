-- Bad cells of a column, row by row.
use Rattle.std.proofs.Common.{◌≡◌, ◌<◌, ◌≤◌, ◌+◌, ◌++◌, ℕ, zero, suc, List, false, Result, Ok, Err, inl, inr, refl, sym, subst, arith, w64, ℤ}
use Rattle.std.specs.Prelude.{◌-◌, IsUtf8, MatchResult, is_ok}
use Rattle.std.specs.Str.{is_utf8}
use Rattle.std.specs.Str.Parse.{ParsesSigned}
use Rattle.std.proofs.Math.Nat.{eq-or-lt_of_le}
use Rattle.std.proofs.lemmas.Str.{is_utf8-from_IsUtf8}
use Rattle.rj_csv_io.specs.Typed.{is_int_text}
use Rattle.rj_csv_io.proofs.TypedFacts.{no-utf8, parsed-err, parsed-ok}
use Rattle.rj_explain.specs.Further.{AreBadTold, AreGood, HasNoBad, IsFirstBadRow, IsRowOf, bad_line, has_bad}
use Rattle.rj_explain.specs.Places.{HasNoRow, at_column}
use Rattle.rj_explain.specs.declared.further.TypedColumn.{TypedColumn}

-- what `parse` says of a field
pub int_parses : {E : Type 0} → (bytes : List ℕ) (r : Result ℤ E) → ParsesSigned w64 10 bytes r → is_ok r ≡ is_int_text bytes
int_parses {E} bytes (Ok n) h = sym (parsed-ok {E = E} bytes (Ok n) n h refl).0
int_parses {E} bytes (Err x) h = sym (parsed-err {E = E} bytes (Err x) x h refl)

-- no row is between one and itself
pub good_none : (c : TypedColumn) (from : ℕ) → AreGood c from from
good_none c from = λ row behind within. absurd (omega arith)

-- one more row without a bad cell
pub good_more : (c : TypedColumn) (from row line : ℕ) (fields : List (List ℕ)) → AreGood c from row → IsRowOf c row line fields → has_bad c fields ≡ false
    → AreGood c from (row + 1)
good_more c from row line fields above here good = λ i behind within. let low : i ≤ row = omega (arith, within) in elim (eq-or-lt_of_le low) [
  | inl e ↦ (line, fields, subst (λ (r : ℕ). IsRowOf c r line fields) (sym e) here, good)
  | inr less ↦ above i behind less
]

pub none_below : (c : TypedColumn) (row : ℕ) → HasNoRow c.delimiter c.text.now row → HasNoBad c row
none_below c row h = record { end = row; good = good_none c row; last = h }

-- what `from_utf8` says of a field
pub utf8_read : {A E : Type 0} {P : A → Type 0} {Q : E → Type 0} → (bytes : List ℕ) (r : Result A E) → MatchResult r P Q → ((t : A) → P t → IsUtf8 bytes)
    → ((e : E) → Q e → ¬ (IsUtf8 bytes)) → is_ok r ≡ is_utf8 bytes
utf8_read bytes (Ok t) h good bad = sym (is_utf8-from_IsUtf8 bytes (good t h))
utf8_read bytes (Err e) h good bad = sym (no-utf8 bytes (bad e h))

-- at most as many cells are told as there are left
pub told-next : (c : TypedColumn) (from most row line : ℕ) (fields : List (List ℕ)) (rest : List ℕ) → 0 < most → IsFirstBadRow c from row line fields
    → AreBadTold c (row + 1) (most - 1) rest → AreBadTold c from most (bad_line row line (at_column c.number fields) ++ rest)
told-next c from zero row line fields rest some h told = absurd (omega arith)
told-next c from (suc most) row line fields rest some h told = let less : suc most - 1 ≡ most = omega arith in AreBadTold.next from most row line fields rest h (subst (λ (n : ℕ). AreBadTold c (row + 1) n rest) less told)
