use Rattle.std.proofs.Common.{rules, ◌≡◌, ◌≤◌, ◌+◌, ◌∙◌, take, ap, length, true, arith}
use Rattle.std.specs.Result.{is_ok}
use Rattle.rj_csv_io.proofs.InputFacts.{consumes-cut, front-cut, room-front}
use Rattle.rj_csv_io.proofs.filling.read_piece.Goals as goal

pub returns-in-Ok-clause-bytes : goal.returns-in-Ok-clause-bytes
returns-in-Ok-clause-bytes g c = λ start before.
    let ok : is_ok c.resize.result ≡ true = search rules in
    let room = rw ok at c.resize.ensures.items in
    let front : take c.len-filled.result c.resize.new.self.items ≡ c.args.bytes.now.items =
    rw room (room-front c.args.bytes.now.items _ c.len-filled.result (c.len-filled.result + 65536) (search rules) (omega arith)) in
    let same : take c.len-filled.result c.get_behind.new.buffer ≡ take c.len-filled.result c.resize.new.self.items =
    c.in-Ok.ensures.front ∙ ap (take c.len-filled.result) c.as_mut_slice.ensures.value in
    let long : length c.get_behind.new.buffer ≤ c.resize.new.self.len = omega (arith, c.in-Ok.ensures.size, c.as_mut_slice.ensures.len) in
    rw c.truncate.ensures.items
    (consumes-cut c.args.bytes.now.items c.resize.new.self.items c.get_behind.new.buffer _ c.len-filled.result c.in-Ok.k front same c.in-Ok.ensures.fits long
    start (g.I.Input.tells c.args.input.now) (g.I.Input.tells c.get_behind.new.input) before c.in-Ok.ensures.bytes)

pub returns-in-Ok-clause-front : goal.returns-in-Ok-clause-front
returns-in-Ok-clause-front g c =
    let ok : is_ok c.resize.result ≡ true = search rules in
    let room = rw ok at c.resize.ensures.items in
    let front : take c.len-filled.result c.resize.new.self.items ≡ c.args.bytes.now.items =
    rw room (room-front c.args.bytes.now.items _ c.len-filled.result (c.len-filled.result + 65536) (search rules) (omega arith)) in
    let same : take c.len-filled.result c.get_behind.new.buffer ≡ take c.len-filled.result c.resize.new.self.items =
    c.in-Ok.ensures.front ∙ ap (take c.len-filled.result) c.as_mut_slice.ensures.value in
    let long : length c.get_behind.new.buffer ≤ c.resize.new.self.len = omega (arith, c.in-Ok.ensures.size, c.as_mut_slice.ensures.len) in
    rw c.truncate.ensures.items
    (front-cut c.args.bytes.now.items c.resize.new.self.items c.get_behind.new.buffer _ c.len-filled.result c.in-Ok.k front same c.in-Ok.ensures.fits long)
