-- How far one byte leads.
use Rattle.std.proofs.Common.{◌≡◌, ◌≤◌, ◌+◌, ◌∷◌, ℕ, Bool, true, false, List, [], Ok, Err, refl, sym, subst, arith}
use Rattle.std.specs.Prelude.{◌==◌, Result, if◌then◌else◌}
use Rattle.rj_csv_io.specs.Internal.StrictSteps.{end_of, at_delimiter, at_lf, at_cr, at_dquote, at_textdata, step_of, end_empty, forbids_empty, next_line, next_field, verdict}
use Rattle.rj_csv_io.specs.declared.strict.fault.StrictFault.{StrictFault}
use Rattle.rj_csv_io.specs.declared.strict.standing.Place.{Place}
use Rattle.rj_csv_io.specs.declared.strict.standing.Place.TheVariants as place
use Rattle.rj_csv_io.specs.declared.strict.standing.Standing.{Standing}

-- the counts grow by one at most
abbrev pub Near : Standing → Result Standing StrictFault → Type 0
Near s (Ok s2) = (s2.row ≤ s.row + 1) × (s2.column ≤ s.column + 1)
Near s (Err e) = Unit {0}

near-if : (s : Standing) (b : Bool) (x y : Result Standing StrictFault) → Near s x → Near s y → Near s (if b then x else y)
near-if s true x y p q = p
near-if s false x y p q = q

near-line : (s : Standing) → Near s (Ok (next_line s))
near-line s = (omega arith, omega arith)

near-field : (s : Standing) → Near s (Ok (next_field s))
near-field s = (omega arith, omega arith)

near-same : (s : Standing) (p : Place) → Near s (Ok (record s { place = p }))
near-same s p = (omega arith, omega arith)

near-empty : (s : Standing) → Near s (end_empty s)
near-empty s = near-if s (forbids_empty s.header) _ _ tt (near-line s)

near-lf : (s : Standing) → Near s (at_lf s)
near-lf s = elim s.place as (λ p. Near s (at_lf (record s { place = p }))) [
  | place.Start ↦ near-empty s
  | place.Fresh ↦ near-line s
  | place.Inside ↦ near-line s
  | place.Open ↦ near-same s place.Open
  | place.Closed ↦ near-line s
  | place.Blank ↦ near-empty s
  | place.Return ↦ near-line s
]

near-delimiter : (s : Standing) → Near s (at_delimiter s)
near-delimiter s = elim s.place as (λ p. Near s (at_delimiter (record s { place = p }))) [
  | place.Start ↦ near-field s
  | place.Fresh ↦ near-field s
  | place.Inside ↦ near-field s
  | place.Open ↦ near-same s place.Open
  | place.Closed ↦ near-field s
  | place.Blank ↦ tt
  | place.Return ↦ tt
]

near-cr : (s : Standing) → Near s (at_cr s)
near-cr s = elim s.place as (λ p. Near s (at_cr (record s { place = p }))) [
  | place.Start ↦ near-same s place.Blank
  | place.Fresh ↦ near-same s place.Return
  | place.Inside ↦ near-same s place.Return
  | place.Open ↦ near-same s place.Open
  | place.Closed ↦ near-same s place.Return
  | place.Blank ↦ tt
  | place.Return ↦ tt
]

near-dquote : (s : Standing) → Near s (at_dquote s)
near-dquote s = elim s.place as (λ p. Near s (at_dquote (record s { place = p }))) [
  | place.Start ↦ near-same s place.Open
  | place.Fresh ↦ near-same s place.Open
  | place.Inside ↦ tt
  | place.Open ↦ near-same s place.Closed
  | place.Closed ↦ near-same s place.Open
  | place.Blank ↦ tt
  | place.Return ↦ tt
]

near-textdata : (s : Standing) → Near s (at_textdata s)
near-textdata s = elim s.place as (λ p. Near s (at_textdata (record s { place = p }))) [
  | place.Start ↦ near-same s place.Inside
  | place.Fresh ↦ near-same s place.Inside
  | place.Inside ↦ near-same s place.Inside
  | place.Open ↦ near-same s place.Open
  | place.Closed ↦ tt
  | place.Blank ↦ tt
  | place.Return ↦ tt
]

near-step : (d : ℕ) (s : Standing) (c : ℕ) → Near s (step_of d s c)
near-step d s c =
    near-if s (c == 10) _ _ (near-lf s) (near-if s (c == 13) _ _ (near-cr s)
    (near-if s (c == 34) _ _ (near-dquote s) (near-if s (c == d) _ _ (near-delimiter s) (near-textdata s))))

pub step-near : (d : ℕ) (s s2 : Standing) (c : ℕ) → Ok s2 ≡ step_of d s c → (s2.row ≤ s.row + 1) × (s2.column ≤ s.column + 1)
step-near d s s2 c e = subst (λ (r : Result Standing StrictFault). Near s r) (sym e) (near-step d s c)

-- a byte that has no fault, and one that has
pub verdict-ok : (d : ℕ) (full : Bool) (s s2 : Standing) (c : ℕ) (text : List ℕ) → Ok s2 ≡ step_of d s c → verdict d full s (c ∷ text) ≡ verdict d full s2 text
unfolding verdict
verdict-ok d full s s2 c text e = rw (sym e) refl

pub verdict-err : (d : ℕ) (full : Bool) (s : Standing) (f : StrictFault) (c : ℕ) (text : List ℕ) → Err f ≡ step_of d s c → verdict d full s (c ∷ text) ≡ Err f
unfolding verdict
verdict-err d full s f c text e = rw (sym e) refl

pub verdict-end : (d : ℕ) (full : Bool) (s : Standing) → verdict d full s [] ≡ end_of full s
unfolding verdict
verdict-end d full s = refl
