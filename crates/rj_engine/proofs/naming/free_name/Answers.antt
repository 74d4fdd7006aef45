use Rattle.std.proofs.Common.{◌∙◌, ap, sym, map, true, false, Bor, List, ℕ}
use Rattle.std.specs.Prelude.{string_bytes}
use Rattle.rj_engine.specs.Naming.{is_free}
use Rattle.rj_engine.proofs.NamingFacts.{free_first, free_none, free_step, marked_none, next_marked}
use Rattle.rj_engine.proofs.naming.free_name.Goals as goal

pub loop-marks-init : goal.loop-marks-init
loop-marks-init c = record {
  marked = c.in_ok-marked.ensures.ok ∙ sym (marked_none c.args.repeated c.args.name.now);
  left = free_first c.args.repeated (map (λ (n : Bor (List ℕ)). n.now) c.args.header.now) (map string_bytes c.args.written.now) c.args.name.now;
}

pub returns-then-is_free : goal.returns-then-is_free
returns-then-is_free c =
    let header = map (λ (n : Bor (List ℕ)). n.now) c.args.header.now in
    let written = map string_bytes c.args.written.now in
    let name = c.args.name.now in
    let next = string_bytes c.in_ok-marked-2.marked in
    let is = next_marked c.args.repeated name (string_bytes c.loop-marks.marked) c.as_str.result.now next c.loop-marks._marks c.loop-marks.invariant.marked c.as_str.ensures.value c.in_ok-marked-2.ensures in
    let test = sym c.if-is_free.true ∙ (c.is_free.ensures ∙ ap (is_free header written) c.as_str-in-loop-marks.ensures.value) in
    sym (c.loop-marks.invariant.left ∙ free_step c.args.repeated header written name next c.loop-marks._marks true c.loop-marks-test.true is test)

pub loop-marks-preserved : goal.loop-marks-preserved
loop-marks-preserved c =
    let header = map (λ (n : Bor (List ℕ)). n.now) c.args.header.now in
    let written = map string_bytes c.args.written.now in
    let name = c.args.name.now in
    let next = string_bytes c.in_ok-marked-2.marked in
    let is = next_marked c.args.repeated name (string_bytes c.loop-marks.marked) c.as_str.result.now next c.loop-marks._marks c.loop-marks.invariant.marked c.as_str.ensures.value c.in_ok-marked-2.ensures in
    let test = sym c.if-is_free.false ∙ (c.is_free.ensures ∙ ap (is_free header written) c.as_str-in-loop-marks.ensures.value) in
    record {
      marked = is;
      left = c.loop-marks.invariant.left ∙ free_step c.args.repeated header written name next c.loop-marks._marks false c.loop-marks-test.true is test;
    }

pub returns : goal.returns
returns c =
    sym (c.loop-marks.invariant.left ∙ free_none c.args.repeated (map (λ (n : Bor (List ℕ)). n.now) c.args.header.now) (map string_bytes c.args.written.now) c.args.name.now c.loop-marks._marks c.loop-marks-test.false)
