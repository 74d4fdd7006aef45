use Rattle.std.proofs.Common.{◌≡◌, ◌∙◌, ◌≤◌, ap, arith, length, rules, sym, take}
use Rattle.std.specs.Str.Lossy.{utf8_valid_len}
use Rattle.std.proofs.lemmas.List.{length-take-le}
use Rattle.rj_line.proofs.ShownFacts.{front_shown, head_shown}
use Rattle.rj_line.proofs.shown.shown_part.Goals as goal

pub slice_bounds-head-end : goal.slice_bounds-head-end
slice_bounds-head-end c =
    let bytes = c.as_bytes.result.now in
    let long : 60 ≤ length bytes = search rules in
    sym (length-take-le 60 bytes long)

pub returns-in-Ok : goal.returns-in-Ok
returns-in-Ok c =
    let text = c.args.text.now in
    let head = take 60 c.as_bytes.result.now in
    let is : head ≡ take 60 text = ap (take 60) c.as_bytes.ensures.value in
    let long : 60 ≤ length text = search rules in
    c.in-Ok.ensures.cases.0 ∙ head_shown text head is c.in-Ok.ensures.cases.1 long

pub returns-in-Ok-from_utf8 : goal.returns-in-Ok-from_utf8
returns-in-Ok-from_utf8 c =
    let text = c.args.text.now in
    let bytes = c.as_bytes.result.now in
    let head = take 60 bytes in
    let n = c.valid_up_to.result in
    let is : head ≡ take 60 text = ap (take 60) c.as_bytes.ensures.value in
    let long : 60 ≤ length bytes = search rules in
    let size : length head ≡ 60 = length-take-le 60 bytes long in
    let low : n ≤ 60 = omega (arith, c.in-Err.ensures.cases.1.short, size, c.valid_up_to.ensures) in
    let len : n ≡ utf8_valid_len head = search rules in
    let front : c.in-Ok-from_utf8.part.now ≡ take n head = search rules in
    front_shown text head c.in-Ok-from_utf8.part.now n is len low front
