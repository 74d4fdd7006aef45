use Rattle.std.proofs.Common.{rules, ◌≡◌, ◌≤◌, ◌<◌, ◌+◌, ◌-◌, ◌*◌, ◌∙◌, ◌++◌, ◌∷◌, [], length, take, true, refl, ap, arith}
use Rattle.std.specs.Prelude.{replicate}
use Rattle.std.specs.Result.{is_ok}
use Rattle.std.specs.Vec.{vec_len}
use Rattle.std.proofs.lemmas.Grind.{div_ceil_times}
use Rattle.std.proofs.lemmas.List.{get_or-replicate, length-replicate, take_all}
use Rattle.rj_columns.proofs.PlacedFacts.{pushed, hints-fit}
use Rattle.rj_columns.proofs.segments.Segments.push.Goals as goal

pub invariant_of-self-2 : goal.invariant_of-self-2
invariant_of-self-2 c =
    let hints = c.self.inside.hints in
    let n = c.div_ceil-hints.result in
    let ok : is_ok c.resize.result ≡ true = search rules in
    let grown : c.resize.new.self.items ≡ take c.div_ceil-hints.result c.self.inside.hints.items ++ replicate (c.div_ceil-hints.result - vec_len c.self.inside.hints) c.len-place.result = rw ok at c.resize.ensures.items in
    let more : c.push.new.self.items ≡ c.self.inside.placed.items ++ record { start = c.self.inside.rows; end = c.self.inside.rows + c.rows.result; segment = c.args.segment } ∷ [] = search rules in
    let size : vec_len c.self.inside.hints ≡ length c.self.inside.hints.items = search rules in
    let place : c.len-place.result ≡ length c.self.inside.placed.items = search rules in
    let times : (c.self.inside.rows + c.rows.result ≤ c.div_ceil-hints.result * 65536) × (c.div_ceil-hints.result * 65536 < c.self.inside.rows + c.rows.result + 65536) =
    rw c.div_ceil-hints.ensures (div_ceil_times (c.self.inside.rows + c.rows.result) 65536 (omega arith)) in
    let fit : length c.self.inside.hints.items ≤ c.div_ceil-hints.result =
    hints-fit c.self.inside.rows (c.self.inside.rows + c.rows.result) c.div_ceil-hints.result (length c.self.inside.hints.items) (omega arith) times.0 c.self.invariant.few in
    let many = length-replicate (c.div_ceil-hints.result - vec_len c.self.inside.hints) c.len-place.result in
    let all : length c.self.inside.hints.items + length (replicate (c.div_ceil-hints.result - vec_len c.self.inside.hints) c.len-place.result) ≡ c.div_ceil-hints.result = omega arith in
    let room = rw (← c.self.view_is) at c.requires in
    rw (more, grown, take_all c.div_ceil-hints.result c.self.inside.hints.items fit)
    (pushed c.self.inside.placed.items c.self.inside.hints.items (replicate (c.div_ceil-hints.result - vec_len c.self.inside.hints) c.len-place.result) c.self.inside.rows
    record { start = c.self.inside.rows; end = c.self.inside.rows + c.rows.result; segment = c.args.segment } c.self.invariant refl (ap (λ k. c.self.inside.rows + k) c.rows.ensures.count)
    (omega (arith, room, c.self.invariant.count, c.rows.ensures.count)) (λ k h. get_or-replicate _ k c.len-place.result 0 (rw many at h) ∙ place) (rw all times.0) (rw all times.1))
