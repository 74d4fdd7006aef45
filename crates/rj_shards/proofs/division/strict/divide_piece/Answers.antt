use Rattle.std.proofs.Common.{◌≡◌, arith, rules, inl, inr, length, map, refl, subst, sym, true}
use Rattle.std.specs.Prelude.{None}
use Rattle.std.proofs.lemmas.Result.{IfErr-weaker}
use Rattle.rj_csv_io.specs.StrictFaults.{row_at}
use Rattle.rj_csv_io.specs.Grammar.{File}
use Rattle.rj_csv_io.specs.Typed.{null_texts}
use Rattle.rj_shards.specs.Blocks.{above, in_all, in_lines, in_text}
use Rattle.rj_shards.specs.Divisions.{after_rows, dividing}
use Rattle.rj_shards.specs.Texts.{HaveFirstRows, IsPieceFault}
use Rattle.rj_shards.specs.declared.division.reading.Reading.{Reading}
use Rattle.rj_shards.specs.declared.division.reading.Reading.TheVariants as reading
use Rattle.rj_shards.specs.declared.division.refused.DivideRefused.TheVariants as refused
use Rattle.rj_shards.proofs.BlockFacts.{above-derived, row-below}
use Rattle.rj_shards.proofs.FirstFacts.{begin-all, first-divided, first-partly}
use Rattle.rj_shards.proofs.division.strict.divide_piece.Goals as goal

pub divide_derived-requires-in-Err-clause-derived : goal.divide_derived-requires-in-Err-clause-derived
divide_derived-requires-in-Err-clause-derived g c =
    let found = c.above_fault-above.ensures in let d = c.args.division.now in
    (true, record { lines = found.0; rest = None }, above-derived d.delimiter (length d.types.now) c.args.text.now c.above_fault-above.result.now (row_at c.in-Err.fault) found.0 found.1 found.2)

pub strict_behind-requires : goal.strict_behind-requires
strict_behind-requires g c =
    let found = c.above_fault-above.ensures in let d = c.args.division.now in
    let file : File = record { lines = found.0; rest = None } in
    let derived = above-derived d.delimiter (length d.types.now) c.args.text.now c.above_fault-above.result.now (row_at c.in-Err.fault) found.0 found.1 found.2 in
    let rows = c.in-Ok-divide_derived.ensures.divided true file derived in
    let row = row-below d.delimiter (null_texts d.nulls.now) d.types.now (length d.types.now) c.args.text.now (row_at c.in-Err.fault) found.0 rows.rows _ found.1 rows.read rows.many in
    omega (arith, row, c.in-Ok-divide_derived.ensures.few)

pub returns-in-Ok-clause-fault : goal.returns-in-Ok-clause-fault
returns-in-Ok-clause-fault g c =
    let is : c.args.reading ≡ reading.Strict c.in-Strict.full = search rules in
    IfErr-weaker c.divide_derived.result _ _ (λ e told t begins. let d = c.in-Ok.ensures.derived in
    subst (λ (r : Reading). IsPieceFault (dividing g.W.Route.part c.args.division.now) r c.args.text.now c.args.before (length c.args.outputs.now) e) (sym is)
    (inr (_, in_all d.0 d.1, told t c.in-Strict.full d.0 begins d.1)))
    c.divide_derived.ensures.fault

pub returns-in-Ok-divide_derived-clause-fault : goal.returns-in-Ok-divide_derived-clause-fault
returns-in-Ok-divide_derived-clause-fault g c = λ t begins.
    let found = c.above_fault-above.ensures in let d = c.args.division.now in
    let file : File = record { lines = found.0; rest = None } in
    let derived = above-derived d.delimiter (length d.types.now) c.args.text.now c.above_fault-above.result.now (row_at c.in-Err.fault) found.0 found.1 found.2 in
    let rows = c.in-Ok-divide_derived.ensures.divided true file derived in
    let is : c.args.reading ≡ reading.Strict c.in-Strict.full = search rules in
    subst (λ (r : Reading). IsPieceFault (dividing g.W.Route.part c.args.division.now) r c.args.text.now c.args.before (length c.args.outputs.now) (refused.Broken c.strict_behind.result)) (sym is)
    (inl (c.strict_behind.result, refl, record { at = c.in-Err.fault; has = c.in-Err.ensures.fault; lines = found.0; above = found.1; rows = rows.rows; read = rows.read; is = c.strict_behind.ensures }))

pub returns-in-Err-divide_derived-clause-fault : goal.returns-in-Err-divide_derived-clause-fault
returns-in-Err-divide_derived-clause-fault g c = λ t begins.
    let found = c.above_fault-above.ensures in let d = c.args.division.now in
    let file : File = record { lines = found.0; rest = None } in
    let derived = above-derived d.delimiter (length d.types.now) c.args.text.now c.above_fault-above.result.now (row_at c.in-Err.fault) found.0 found.1 found.2 in
    let is : c.args.reading ≡ reading.Strict c.in-Strict.full = search rules in
    subst (λ (r : Reading). IsPieceFault (dividing g.W.Route.part c.args.division.now) r c.args.text.now c.args.before (length c.args.outputs.now) c.in-Err-divide_derived.earlier) (sym is)
    (inr (_, above c.in-Err.fault found.0 c.in-Err.ensures.fault found.1, c.in-Err-divide_derived.ensures.fault t true file begins derived))

pub returns-in-Ok-divide_derived-clause-refusal : goal.returns-in-Ok-divide_derived-clause-refusal
returns-in-Ok-divide_derived-clause-refusal g c = λ b begins none. let made = c.in-Ok-divide_derived.ensures.begins.1 in absurd (cc)

pub returns-in-Lenient-clause-partly : goal.returns-in-Lenient-clause-partly
returns-in-Lenient-clause-partly g c =
    let d = after_rows c.args.before (dividing g.W.Route.part c.args.division.now) in
    let before = map g.O.Output.told c.args.outputs.now in let after = map g.O.Output.told c.divide_records.new.outputs in
    let how = reading.Lenient c.in-Lenient.is_first in
    let is : c.args.reading ≡ how = search rules in
    IfErr-weaker c.divide_records.result _ _ (λ e partly.
    subst (λ (r : Reading). HaveFirstRows d r c.args.text.now before after e) (sym is)
    (first-partly d how c.args.text.now _ before after e (begin-all d.delimiter (length d.types) how c.args.text.now _ refl) partly))
    c.divide_records.ensures.partly

pub returns-in-Ok-clause-partly : goal.returns-in-Ok-clause-partly
returns-in-Ok-clause-partly g c =
    let d = after_rows c.args.before (dividing g.W.Route.part c.args.division.now) in
    let before = map g.O.Output.told c.args.outputs.now in let after = map g.O.Output.told c.divide_derived.new.outputs in
    let how = reading.Strict c.in-Strict.full in
    let is : c.args.reading ≡ how = search rules in
    let derived = c.in-Ok.ensures.derived in
    IfErr-weaker c.divide_derived.result _ _ (λ e partly.
    subst (λ (r : Reading). HaveFirstRows d r c.args.text.now before after e) (sym is)
    (first-partly d how c.args.text.now _ before after e (in_text derived.0 derived.1) (partly c.in-Strict.full derived.0 derived.1)))
    c.divide_derived.ensures.partly

pub returns-in-Ok-divide_derived-clause-partly : goal.returns-in-Ok-divide_derived-clause-partly
returns-in-Ok-divide_derived-clause-partly g c =
    let d = after_rows c.args.before (dividing g.W.Route.part c.args.division.now) in
    let before = map g.O.Output.told c.args.outputs.now in let after = map g.O.Output.told c.divide_derived-in-Err.new.outputs in
    let how = reading.Strict c.in-Strict.full in
    let is : c.args.reading ≡ how = search rules in
    let found = c.above_fault-above.ensures in
    let file : File = record { lines = found.0; rest = None } in
    let derived = above-derived d.delimiter (length d.types) c.args.text.now c.above_fault-above.result.now (row_at c.in-Err.fault) found.0 found.1 found.2 in
    subst (λ (r : Reading). HaveFirstRows d r c.args.text.now before after (refused.Broken c.strict_behind.result)) (sym is)
    (first-divided d how c.args.text.now _ before after _ (in_lines (row_at c.in-Err.fault) found.0 found.1) _ (c.in-Ok-divide_derived.ensures.divided true file derived))

pub returns-in-Err-divide_derived-clause-partly : goal.returns-in-Err-divide_derived-clause-partly
returns-in-Err-divide_derived-clause-partly g c =
    let d = after_rows c.args.before (dividing g.W.Route.part c.args.division.now) in
    let before = map g.O.Output.told c.args.outputs.now in let after = map g.O.Output.told c.divide_derived-in-Err.new.outputs in
    let how = reading.Strict c.in-Strict.full in
    let is : c.args.reading ≡ how = search rules in
    let found = c.above_fault-above.ensures in
    let file : File = record { lines = found.0; rest = None } in
    let derived = above-derived d.delimiter (length d.types) c.args.text.now c.above_fault-above.result.now (row_at c.in-Err.fault) found.0 found.1 found.2 in
    subst (λ (r : Reading). HaveFirstRows d r c.args.text.now before after c.in-Err-divide_derived.earlier) (sym is)
    (first-partly d how c.args.text.now _ before after _ (in_lines (row_at c.in-Err.fault) found.0 found.1) (c.in-Err-divide_derived.ensures.partly true file derived))
