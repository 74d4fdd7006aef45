use Rattle.std.proofs.Common.{◌≡◌, ◌<◌, ◌+◌, ℕ, sym, ap, subst, ◌∙◌, arith, length, take, drop}
use Rattle.std.proofs.lemmas.List.{length-drop, take_rest}
use Rattle.csv.specs.declared.parser.State.TheVariants as st
use Rattle.rj_csv_io.specs.declared.place.ReaderPlace.TheVariants as place
use Rattle.rj_csv_io.specs.Cuts.{is_open_place, has_bom, state_after}
use Rattle.rj_csv_io.proofs.CutFacts.{strip-plain}
use Rattle.rj_csv_io.proofs.PlaceFacts.{rest-at, next-place, line-ends}
use Rattle.rj_csv_io.proofs.cut.cut_after.Goals as goal

pub returns-then-not-starts_with_bom-clause-ends : goal.returns-then-not-starts_with_bom-clause-ends
returns-then-not-starts_with_bom-clause-ends c =
    let at = c.loop-turn.at in
    let k = c.in-Some.k in
    let text = c.args.text.now in
    let size = length-drop at text in
    let rest = ap length (take_rest text at) in
    let high = c.in-Some.ensures.0.high in
    let within : at + k < length text = omega (arith, size, rest, high) in
    let found = rw (rest-at text at k) at c.in-Some.ensures.1 in
    let next = next-place c.byte-byte.result place.Fresh c.loop-turn.place c.scan-place-in-loop-turn.result text at (at + k + 1) (omega arith) c.loop-turn.invariant.place c.scan-place-in-loop-turn.ensures in
    let ends = line-ends c.byte-byte.result c.byte-byte.ensures.lawful text (at + k) within found (sym (ap is_open_place next) ∙ (sym c.is_open.ensures ∙ c.if-not-is_open.true)) in
    subst (λ (d : ℕ). state_after d st.StartRecord (take (at + k + 1) text) ≡ st.StartRecord) c.byte-byte.ensures.value ends

pub returns-then-not-starts_with_bom-clause-unmarked : goal.returns-then-not-starts_with_bom-clause-unmarked
returns-then-not-starts_with_bom-clause-unmarked c =
    let text = c.args.text.now in
    let next = c.loop-turn.at + c.in-Some.k + 1 in
    let plain = sym c.starts_with_bom.ensures.value ∙ c.if-not-starts_with_bom.true in
    strip-plain (drop next text) (ap has_bom (sym (take_rest text next)) ∙ plain)

pub loop-turn-preserved : goal.loop-turn-preserved
loop-turn-preserved c =
    let at = c.loop-turn.at in
    let k = c.in-Some.k in
    let text = c.args.text.now in
    let size = length-drop at text in
    let rest = ap length (take_rest text at) in
    let high = c.in-Some.ensures.0.high in
    let within : at + k < length text = omega (arith, size, rest, high) in
    let next = next-place c.byte-byte.result place.Fresh c.loop-turn.place c.scan-place-in-loop-turn.result text at (at + k + 1) (omega arith) c.loop-turn.invariant.place c.scan-place-in-loop-turn.ensures in
    record { within = omega (arith, within); place = next }
