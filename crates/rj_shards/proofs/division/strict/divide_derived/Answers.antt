use Rattle.std.proofs.Common.{◌≡◌, ◌∙◌, ◌<◌, List, ℕ, true, ap, arith, length, map, subst}
use Rattle.std.proofs.lemmas.Result.{IfErr-weaker, IfOk-weaker}
use Rattle.csv.specs.Reading.{strip_bom}
use Rattle.rj_csv_io.specs.Pieces.{piece_records}
use Rattle.rj_shards.specs.Divisions.{IsDivided, IsPartlyDivided, after_rows, dividing}
use Rattle.rj_shards.specs.Readings.{IsFaultBehind}
use Rattle.rj_csv_io.specs.Grammar.{may_delimit}
use Rattle.rj_csv_io.specs.declared.strict.header.HeaderPlace.TheVariants.{Above}
use Rattle.rj_csv_io.proofs.StrictLawFacts.{reads_all_records}
use Rattle.rj_shards.proofs.division.strict.divide_derived.Goals as goal

pub returns-then-division-gt1-clause-divided : goal.returns-then-division-gt1-clause-divided
returns-then-division-gt1-clause-divided g c =
    let d = c.args.division.now in
    let many : 1 < length d.types.now = omega arith in
    let may = subst (λ (x : ℕ). may_delimit x ≡ true) c.byte-byte.ensures.value c.byte-byte.ensures.lawful in
    IfOk-weaker c.divide_records.result _ _ (λ n told full file derived.
    subst (λ (x : List (List (List ℕ))). IsDivided (after_rows c.args.before (dividing g.W.Route.part d)) x (map g.O.Output.told c.args.outputs.now) (map g.O.Output.told c.divide_records.new.outputs) n)
    (reads_all_records d.delimiter (Above (length d.types.now)) full c.args.text.now file may derived many) told) c.divide_records.ensures.divided

pub returns-then-division-gt1-clause-fault : goal.returns-then-division-gt1-clause-fault
returns-then-division-gt1-clause-fault g c =
    let d = c.args.division.now in
    let many : 1 < length d.types.now = omega arith in
    let may = subst (λ (x : ℕ). may_delimit x ≡ true) c.byte-byte.ensures.value c.byte-byte.ensures.lawful in
    IfErr-weaker c.divide_records.result _ _ (λ e told t full file begins derived.
    subst (λ (x : List (List (List ℕ))). IsFaultBehind (dividing g.W.Route.part d) c.args.before (length c.args.outputs.now) x e)
    (reads_all_records d.delimiter (Above (length d.types.now)) full c.args.text.now file may derived many) (told t begins)) c.divide_records.ensures.fault

pub quote_below_name-requires : goal.quote_below_name-requires
quote_below_name-requires g c = (length c.args.division.now.types.now, c.requires.derived.0, c.requires.derived.1, omega arith, c.requires.derived.2)

pub returns-clause-divided : goal.returns-clause-divided
returns-clause-divided g c =
    let d = c.args.division.now in
    let is = ap (λ (x : List ℕ). piece_records d.delimiter true x) (c.without_bom.ensures ∙ ap strip_bom c.as_slice.ensures.value) in
    IfOk-weaker c.divide_records-2.result _ _ (λ n told full file derived.
    subst (λ (x : List (List (List ℕ))). IsDivided (after_rows c.args.before (dividing g.W.Route.part d)) x (map g.O.Output.told c.args.outputs.now) (map g.O.Output.told c.divide_records-2.new.outputs) n)
    (is ∙ c.in-Ok.ensures (length d.types.now) full file (omega arith) derived) told) c.divide_records-2.ensures.divided

pub returns-clause-fault : goal.returns-clause-fault
returns-clause-fault g c =
    let d = c.args.division.now in
    let is = ap (λ (x : List ℕ). piece_records d.delimiter true x) (c.without_bom.ensures ∙ ap strip_bom c.as_slice.ensures.value) in
    IfErr-weaker c.divide_records-2.result _ _ (λ e told t full file begins derived.
    subst (λ (x : List (List (List ℕ))). IsFaultBehind (dividing g.W.Route.part d) c.args.before (length c.args.outputs.now) x e)
    (is ∙ c.in-Ok.ensures (length d.types.now) full file (omega arith) derived) (told t begins)) c.divide_records-2.ensures.fault

pub returns-then-division-gt1-clause-partly : goal.returns-then-division-gt1-clause-partly
returns-then-division-gt1-clause-partly g c =
    let d = c.args.division.now in
    let many : 1 < length d.types.now = omega arith in
    let may = subst (λ (x : ℕ). may_delimit x ≡ true) c.byte-byte.ensures.value c.byte-byte.ensures.lawful in
    IfErr-weaker c.divide_records.result _ _ (λ e told full file derived.
    subst (λ (x : List (List (List ℕ))). IsPartlyDivided (after_rows c.args.before (dividing g.W.Route.part d)) x (map g.O.Output.told c.args.outputs.now) (map g.O.Output.told c.divide_records.new.outputs) e)
    (reads_all_records d.delimiter (Above (length d.types.now)) full c.args.text.now file may derived many) told) c.divide_records.ensures.partly

pub returns-clause-partly : goal.returns-clause-partly
returns-clause-partly g c =
    let d = c.args.division.now in
    let is = ap (λ (x : List ℕ). piece_records d.delimiter true x) (c.without_bom.ensures ∙ ap strip_bom c.as_slice.ensures.value) in
    IfErr-weaker c.divide_records-2.result _ _ (λ e told full file derived.
    subst (λ (x : List (List (List ℕ))). IsPartlyDivided (after_rows c.args.before (dividing g.W.Route.part d)) x (map g.O.Output.told c.args.outputs.now) (map g.O.Output.told c.divide_records-2.new.outputs) e)
    (is ∙ c.in-Ok.ensures (length d.types.now) full file (omega arith) derived) told) c.divide_records-2.ensures.partly
