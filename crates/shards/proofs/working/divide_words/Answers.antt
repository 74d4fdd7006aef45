use Rattle.std.proofs.Common.{ap, map, refl, subst, sym, true}
use Rattle.std.proofs.lemmas.Result.{IfErr-at_err, IfErr-weaker, on_ok_weaker}
use Rattle.rj_line.specs.declared.fault.Fault.TheVariants as fault
use Rattle.shards.specs.declared.failure.Failure.TheVariants.{Told}
use Rattle.shards.proofs.MemoryFacts.{kept-cuts, kept-range}
use Rattle.shards.specs.Outputs.{printed_in}
use Rattle.shards.specs.Works.{IsTaskDone, IsTaskFailure, of_task, of_words}
use Rattle.shards.specs.declared.line.Task.{Task}
use Rattle.shards.proofs.working.divide_words.Goals as goal

pub returns-in-Err-clause-failure : goal.returns-in-Err-clause-failure
returns-in-Err-clause-failure g c = of_words c.in-Err.failure c.in-Err.ensures.failure (ap (map g.S.Part.Output.told) c.new.ensures.items) refl

pub returns-in-Divide-clause-done : goal.returns-in-Divide-clause-done
returns-in-Divide-clause-done g c =
    let holds = g.S.Storage.holds c.args.storage.now in
    let tells = g.S.Storage.tells_parts c.args.storage.now in
    let told = map g.S.Part.Output.told c.divide_range.result.1.items in
    let old = printed_in g.O.Output.told g.O.Output.count c.args.output.now in
    let new = printed_in g.O.Output.told g.O.Output.count c.divide_range.new.output in
    on_ok_weaker c.divide_range.result.0 (λ is. record {
      line = c.in-Ok.line;
      read = c.in-Ok.ensures.line;
      done = subst (λ (t : Task). IsTaskDone holds tells c.in-Ok.line t told old new) (sym c.in-Divide.is) is;
    }) c.divide_range.ensures.division

pub returns-in-Divide-clause-failure : goal.returns-in-Divide-clause-failure
returns-in-Divide-clause-failure g c =
    let holds = g.S.Storage.holds c.args.storage.now in
    let tells = g.S.Storage.tells_parts c.args.storage.now in
    let told = map g.S.Part.Output.told c.divide_range.result.1.items in
    let old = printed_in g.O.Output.told g.O.Output.count c.args.output.now in
    let new = printed_in g.O.Output.told g.O.Output.count c.divide_range.new.output in
    IfErr-weaker c.divide_range.result.0 _ _ (λ e is.
    of_task c.in-Ok.line e c.in-Ok.ensures.line (subst (λ (t : Task). IsTaskFailure holds tells c.in-Ok.line t told old new e) (sym c.in-Divide.is) is)) c.divide_range.ensures.failure

pub returns-in-Divide-clause-unchanged : goal.returns-in-Divide-clause-unchanged
returns-in-Divide-clause-unchanged g c = λ none. absurd (none c.in-Ok.line c.in-Ok.ensures.line)

pub returns-clause-done : goal.returns-clause-done
returns-clause-done g c =
    let holds = g.S.Storage.holds c.args.storage.now in
    let tells = g.S.Storage.tells_parts c.args.storage.now in
    let told = map g.S.Part.Output.told c.new-in-Cut.result.items in
    let old = printed_in g.O.Output.told g.O.Output.count c.args.output.now in
    let new = printed_in g.O.Output.told g.O.Output.count c.print_cuts-printed.new.output in
    on_ok_weaker c.print_cuts-printed.result (λ is. record {
      line = c.in-Ok.line;
      read = c.in-Ok.ensures.line;
      done = subst (λ (t : Task). IsTaskDone holds tells c.in-Ok.line t told old new) (sym c.in-Cut.is) (ap (map g.S.Part.Output.told) c.new-in-Cut.ensures.items, is);
    }) c.print_cuts-printed.ensures.cutting

pub returns-clause-failure : goal.returns-clause-failure
returns-clause-failure g c =
    let holds = g.S.Storage.holds c.args.storage.now in
    let tells = g.S.Storage.tells_parts c.args.storage.now in
    let told = map g.S.Part.Output.told c.new-in-Cut.result.items in
    let old = printed_in g.O.Output.told g.O.Output.count c.args.output.now in
    let new = printed_in g.O.Output.told g.O.Output.count c.print_cuts-printed.new.output in
    IfErr-weaker c.print_cuts-printed.result _ _ (λ e is.
    of_task c.in-Ok.line e c.in-Ok.ensures.line
    (subst (λ (t : Task). IsTaskFailure holds tells c.in-Ok.line t told old new e) (sym c.in-Cut.is) (ap (map g.S.Part.Output.told) c.new-in-Cut.ensures.items, is))) c.print_cuts-printed.ensures.failure

pub returns-clause-unchanged : goal.returns-clause-unchanged
returns-clause-unchanged g c = λ none. absurd (none c.in-Ok.line c.in-Ok.ensures.line)

pub returns-in-Divide-clause-memory : goal.returns-in-Divide-clause-memory
returns-in-Divide-clause-memory g c = λ is.
    kept-range (g.S.Storage.holds c.args.storage.now) (g.S.Storage.tells_parts c.args.storage.now c.in-Divide.folder.now) c.in-Ok.line _ _ _ c.in-Divide.bounds (Told fault.Memory) refl (IfErr-at_err _ is c.divide_range.ensures.failure)

pub returns-clause-memory : goal.returns-clause-memory
returns-clause-memory g c = λ is.
    kept-cuts (g.S.Storage.holds c.args.storage.now) true c.in-Ok.line (map g.S.Part.Output.told c.new-in-Cut.result.items) _ _ c.in-Cut.ranges (Told fault.Memory) refl (IfErr-at_err _ is c.print_cuts-printed.ensures.failure)
