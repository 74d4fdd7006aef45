use Rattle.std.proofs.Common.{ap, length, map, subst, sym}
use Rattle.std.proofs.lemmas.List.{length-map}
use Rattle.rj_shards.specs.Texts.{HaveFirstRows, IsDivisionFault, IsTextDivided}
use Rattle.shards.specs.Ranges.{IsRowsFault, range_bytes, range_dividing, range_file, range_reading}
use Rattle.shards.specs.declared.failure.Failure.TheVariants.{Told}
use Rattle.shards.proofs.RangeFacts.{none-failed, range-told, unopened-rows, unread-rows, unwritten-rows}
use Rattle.shards.proofs.StorageFacts.{told-if}
use Rattle.shards.proofs.dividing.divide_rows.Goals as goal

pub returns-in-Err-clause-fault : goal.returns-in-Err-clause-fault
returns-in-Err-clause-fault g c =
    let range = c.args.range.now in
    unopened-rows (g.W.Route.part c.args.route.now) (range_file (g.S.Storage.holds c.args.storage.now) range) range (map g.O.Output.told c.args.outputs.now) c.in-Err.fault c.in-Err.ensures.fault

pub returns-in-Ok-divide_input-clause-divided : goal.returns-in-Ok-divide_input-clause-divided
returns-in-Ok-divide_input-clause-divided g c =
    let range = c.args.range.now in
    let holds = g.S.Storage.holds c.args.storage.now in
    let tells = g.S.Reader.Input.tells c.in-Ok.input in
    let told = range-told holds range c.operand.result.now c.begin_of.result tells c.operand.ensures c.begin_of.ensures c.in-Ok.ensures.bytes in
    told-if (range_file holds range) tells (range_bytes range)
    (λ text.
    IsTextDivided (range_dividing (g.W.Route.part c.args.route.now) range) (range_reading range.line.now.strict range.from) text (map g.O.Output.told c.args.outputs.now) (map g.O.Output.told c.divide_input.new.outputs) c.in-Ok-divide_input.rows)
    told c.in-Ok-divide_input.ensures.divided

pub returns-clause-fault : goal.returns-clause-fault
returns-clause-fault g c =
    let range = c.args.range.now in
    let part = g.W.Route.part c.args.route.now in
    let holds = g.S.Storage.holds c.args.storage.now in
    let tells = g.S.Reader.Input.tells c.in-Ok.input in
    let before = map g.O.Output.told c.args.outputs.now in
    let after = map g.O.Output.told c.divide_input.new.outputs in
    let e = c.in-Err-divide_input.refused in
    let told = range-told holds range c.operand.result.now c.begin_of.result tells c.operand.ensures c.begin_of.ensures c.in-Ok.ensures.bytes in
    let why =
    told-if (range_file holds range) tells (range_bytes range)
    (λ text. IsDivisionFault (range_dividing part range) 8388608 (range_reading range.line.now.strict range.from) text (length c.args.outputs.now) e)
    told (c.in-Err-divide_input.ensures.fault range.own.now c.requires.table) in
    let got =
    told-if (range_file holds range) tells (range_bytes range) (λ text. HaveFirstRows (range_dividing part range) (range_reading range.line.now.strict range.from) text before after e)
    told c.in-Err-divide_input.ensures.partly in
    (e, ap Told c.fault_of_division.ensures, subst (λ n. IsRowsFault part (range_file holds range) range n e) (sym (length-map c.args.outputs.now g.O.Output.told)) why, got)

pub returns-in-Err-clause-unwritten : goal.returns-in-Err-clause-unwritten
returns-in-Err-clause-unwritten g c = λ never.
    let range = c.args.range.now in
    unread-rows (g.W.Route.part c.args.route.now) (range_file (g.S.Storage.holds c.args.storage.now) range) range 0 c.in-Err.fault c.in-Err.ensures.fault

pub returns-clause-unwritten : goal.returns-clause-unwritten
returns-clause-unwritten g c = λ never.
    let range = c.args.range.now in
    let part = g.W.Route.part c.args.route.now in
    let holds = g.S.Storage.holds c.args.storage.now in
    let tells = g.S.Reader.Input.tells c.in-Ok.input in
    let outputs = c.args.outputs.now in
    let e = c.in-Err-divide_input.refused in
    let told = range-told holds range c.operand.result.now c.begin_of.result tells c.operand.ensures c.begin_of.ensures c.in-Ok.ensures.bytes in
    let why =
    told-if (range_file holds range) tells (range_bytes range)
    (λ text. IsDivisionFault (range_dividing part range) 8388608 (range_reading range.line.now.strict range.from) text (length outputs) e)
    told (c.in-Err-divide_input.ensures.fault range.own.now c.requires.table) in (
      e,
      ap Told c.fault_of_division.ensures,
      unwritten-rows part (range_file holds range) range (length outputs) e why
          (λ p is low. none-failed g.O.Output.count outputs c.divide_input.new.outputs e p never c.in-Err-divide_input.ensures.writes is low),
    )
