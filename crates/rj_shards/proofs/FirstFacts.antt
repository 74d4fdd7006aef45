-- The first rows of a text.
use Rattle.std.proofs.Common.{◌≡◌, ◌∙◌, ◌+◌, inl, inr, ℕ, List, [], ◌++◌, Option, Bool, refl, sym, ap, subst, length}
use Rattle.std.proofs.lemmas.List.{append-nil}
use Rattle.rj_csv_io.specs.Pieces.{piece_records}
use Rattle.rj_csv_io.specs.Grammar.{lines_text}
use Rattle.rj_shards.specs.Blocks.{BeginDerived, StandDerived, above, in_all, in_lines, in_text}
use Rattle.rj_shards.specs.Divisions.{Dividing, IsDivided, IsPartlyDivided}
use Rattle.rj_shards.specs.Texts.{BeginIn, HaveFirstRows, StandIn}
use Rattle.rj_shards.specs.Internal.Underway.{AreBehind}
use Rattle.rj_shards.specs.declared.division.reading.Reading.{Reading}
use Rattle.rj_shards.specs.declared.division.reading.Reading.TheVariants as reading
use Rattle.rj_shards.specs.declared.division.refused.DivideRefused.{DivideRefused}
use Rattle.rj_shards.proofs.DivisionFacts.{part-none, part-of}

-- a text begins with no records
pub begin-none : (d names : ℕ) (how : Reading) (text : List ℕ) → BeginIn d names how text []
begin-none d names (reading.Lenient is_first) text = (piece_records d is_first text, refl)
begin-none d names (reading.Strict full) text = in_lines 1 [] (record { left = text; spelled = refl; are_lines = refl; at_row = refl })

begin-derived : (d names : ℕ) (full : Bool) (text : List ℕ) (records : List (List (List ℕ))) → StandDerived d names full text records → BeginDerived d names full text records
begin-derived d names full text _ (in_all file x) = in_text file x
begin-derived d names full text _ (above f lines has are) = in_lines _ lines are

-- a text begins with all its records, or those above the place where it stops being derived
pub begin-all : (d names : ℕ) (how : Reading) (text : List ℕ) (records : List (List (List ℕ))) → StandIn d names how text records → BeginIn d names how text records
begin-all d names (reading.Lenient is_first) text records is = ([], sym is ∙ sym (append-nil records))
begin-all d names (reading.Strict full) text records is = begin-derived d names full text records is

-- a text begins with the records of the bytes that were taken
pub begin-done : (d names : ℕ) (how was : Reading) (text taken left : List ℕ) (done : List (List (List ℕ))) → AreBehind d names how text taken done was left → text ≡ taken ++ left → BeginIn d names how text done
begin-done d names (reading.Lenient f) (reading.Lenient a) text taken left done b cut = (piece_records d a left, b)
begin-done d names (reading.Strict f) (reading.Strict s) text taken left done b cut =
    let spelled = cut ∙ ap (λ (t : List ℕ). t ++ left) (b.2.spelled ∙ append-nil (lines_text d b.1)) in
    subst (BeginDerived d names f text) (sym b.3) (in_lines (1 + length b.1) b.1 (record { left = left; spelled = spelled; are_lines = b.2.lines; at_row = refl }))
begin-done d names (reading.Lenient f) (reading.Strict s) text taken left done b cut = absurd b
begin-done d names (reading.Strict f) (reading.Lenient a) text taken left done b cut = absurd b

module _ (d : Dividing) (how : Reading) (text : List ℕ) (records : List (List (List ℕ))) (before after : List (Option (List ℕ))) (e : DivideRefused)
    (begin : BeginIn d.delimiter (length d.types) how text records) where
  -- each output that didn't fail got its rows among first records, or nothing
  pub first-partly : IsPartlyDivided d records before after e → HaveFirstRows d how text before after e
  first-partly partly p low ne = elim (partly p low ne) [
    | inl same ↦ ([], begin-none d.delimiter (length d.types) how text, part-none d before after p same)
    | inr got ↦ (records, begin, got)
  ]

  -- each got its rows among first records
  pub first-divided : (n : ℕ) → IsDivided d records before after n → HaveFirstRows d how text before after e
  first-divided n divided p low ne = (records, begin, part-of d records before after n p low divided)
