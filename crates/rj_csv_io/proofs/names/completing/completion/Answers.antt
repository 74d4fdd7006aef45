use Rattle.std.proofs.Common.{◌≡◌, ◌∙◌, ◌-◌, [], ℕ, List, Bor, false, ap, drop, length, map, refl, subst, sym, take}
use Rattle.std.proofs.Common.{inl, inr}
use Rattle.csv.specs.Reading.{records}
use Rattle.rj_csv_io.specs.StrictFaults.{HasFault}
use Rattle.rj_csv_io.specs.Grammar.{Derives}
use Rattle.rj_csv_io.specs.StrictReading.{config_of}
use Rattle.rj_csv_io.specs.declared.strict.header.HeaderPlace.TheVariants.{Above}
use Rattle.rj_csv_io.specs.Completed.{first_of, header_of, is_left}
use Rattle.rj_csv_io.specs.NameEnds.{behind_first, first_text}
use Rattle.rj_csv_io.specs.Named.{have_names}
use Rattle.rj_csv_io.proofs.NameEndFacts.{first-is, whole-rest}
use Rattle.rj_csv_io.proofs.RecordFacts.{named-is}
use Rattle.rj_csv_io.proofs.names.completing.completion.Goals as goal

pub returns-in-None : goal.returns-in-None
unfolding have_names
returns-in-None c =
    let d = c.args.delimiter in
    let none = rw c.in-None.is at c.in_ok-header.ensures in
    let empty : header_of d c.args.bytes.now ≡ [] = ap first_of (ap (records (config_of d)) (sym c.without_bom-text.ensures) ∙ none) in
    inl (ap is_left empty)

pub returns-then-is_refused : goal.returns-then-is_refused
returns-then-is_refused c =
    let d = c.args.delimiter in
    let text = c.without_bom-text.result.now in
    let front = first-is text (behind_first d text) c.first_end-end.result c.first_end-end.ensures.within c.first_end-end.ensures.rest ∙ ap (first_text d) c.without_bom-text.ensures in
    let broken = c.if-is_refused.ensures.broken refl in
    inr (broken.0, (broken.1.0, subst (λ (t : List ℕ). HasFault d (Above 2) false t broken.1.0) front broken.1.1))

pub returns : goal.returns
returns c =
    let d = c.args.delimiter in
    let text = c.without_bom-text.result.now in
    let same = c.without_bom-text.ensures in
    let front = first-is text (behind_first d text) c.first_end-end.result c.first_end-end.ensures.within c.first_end-end.ensures.rest ∙ ap (first_text d) same in
    let some = rw c.in-Some.is at c.in_ok-header.ensures in
    let header : map (λ (f : Bor (List ℕ)). f.now) c.in_ok-fields.fields.items ≡ header_of d c.args.bytes.now =
    c.in_ok-fields.ensures ∙ (sym (ap first_of some.1) ∙ ap (λ (t : List ℕ). first_of (records (config_of d) t)) same) in
    let first : map (λ (f : Bor (List ℕ)). f.now) c.as_slice.result.now ≡ header_of d c.args.bytes.now = ap (map (λ (f : Bor (List ℕ)). f.now)) c.as_slice.ensures.value ∙ header in
    let second : map (λ (f : Bor (List ℕ)). f.now) c.as_slice-2.result.now ≡ header_of d c.args.bytes.now = ap (map (λ (f : Bor (List ℕ)). f.now)) c.as_slice-2.ensures.value ∙ header in
    let rest = c.first_end-end.ensures.rest ∙ ap (behind_first d) same in (
      ap is_left (sym first) ∙ sym c.if-is_left.ensures,
      (λ s. let whole = c.if-is_refused.ensures.whole refl s in (whole.0, subst (λ (t : List ℕ). Derives d (Above 2) false t whole.0) front whole.1)),
      named-is d c.args.bytes.now (map (λ (f : Bor (List ℕ)). f.now) c.as_slice-2.result.now) (take (length text - c.first_end-end.result) (drop c.first_end-end.result text)) second (whole-rest text c.first_end-end.result ∙ rest) _ _ c.in_ok-completed.ensures.text c.in_ok-completed.ensures.given,
    )
