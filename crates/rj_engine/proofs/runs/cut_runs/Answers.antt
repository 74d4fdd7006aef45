use Rattle.std.proofs.Common.{All, arith, subst, sym}
use Rattle.std.proofs.lemmas.List.Elements.{All-nil, All-push}
use Rattle.rj_engine.specs.Chosen.{shown_rows}
use Rattle.rj_engine.specs.Shown.{Follow, IsRunOf}
use Rattle.rj_engine.specs.declared.runs.Run.{Run}
use Rattle.rj_engine.proofs.RunFacts.{Follow-more, Follow-none}
use Rattle.rj_engine.proofs.runs.cut_runs.Goals as goal

pub loop-place-init : goal.loop-place-init
loop-place-init c =
    let Each : Run → Type 0 = IsRunOf c.args.segments.now (shown_rows c.args.shown.now.chosen c.args.joined.now.members) in
    record {
      within = omega arith;
      follow = subst (Follow 0 0) (sym c.new-runs.ensures.items) (Follow-none 0);
      each = subst (All Each) (sym c.new-runs.ensures.items) (All-nil Each);
    }

pub loop-place-preserved : goal.loop-place-preserved
loop-place-preserved c =
    let Each : Run → Type 0 = IsRunOf c.args.segments.now (shown_rows c.args.shown.now.chosen c.args.joined.now.members) in
    let run = c.next_run-run.result in
    let before = c.loop-place.runs.items in
    let more = c.in_ok-push.ensures.items in
    record {
      within = c.next_run-run.ensures.run.to;
      follow = subst (Follow 0 run.to) (sym more) (Follow-more 0 c.loop-place.place before run c.loop-place.invariant.follow c.next_run-run.ensures.from);
      each = subst (All Each) (sym more) (All-push Each before run c.loop-place.invariant.each c.next_run-run.ensures.run);
    }
