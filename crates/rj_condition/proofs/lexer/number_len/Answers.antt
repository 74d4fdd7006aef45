use Rattle.std.proofs.Common.{arith, drop, take, length, length-drop, ◌-◌}
use Rattle.std.proofs.lemmas.List.{length-take}
use Rattle.std.specs.Char.{is_ascii_digit}
use Rattle.std.proofs.lemmas.List.Sums.{prefix_len-le-length}
use Rattle.rj_condition.proofs.lexer.number_len.Goals as goal

pub overflow_add-result : goal.overflow_add-result
overflow_add-result c = let rest = take (length c.args.text.now - 1) (drop 1 c.args.text.now) in
    omega (arith, c.digits_len.ensures, prefix_len-le-length is_ascii_digit rest, length-take (length c.args.text.now - 1) (drop 1 c.args.text.now), length-drop 1 c.args.text.now)
