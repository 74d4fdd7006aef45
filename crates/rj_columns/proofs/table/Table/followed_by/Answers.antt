use Rattle.std.proofs.Common.{rules, ◌≡◌, ◌∙◌, ◌++◌, ◌∷◌, [], sym, ap, arith}
use Rattle.std.proofs.lemmas.List.{length-append}
use Rattle.rj_columns.specs.Tables.{TableValue, rows_of_all}
use Rattle.rj_columns.proofs.SegmentFacts.{count-more, joined-fit, joined-shown}
use Rattle.rj_columns.proofs.table.Table.followed_by.Goals as goal

pub append-requires : goal.append-requires
append-requires c =
    let pushed : c.push.new.self ≡ c.self.inside.closed ++ c.self.inside.last ∷ [] = search rules in
    let room = rw (← c.self.view_is, ← c.other.view_is) at c.requires.room in
    let one = length-append (rows_of_all c.self.inside.closed) c.self.inside.last.rows in
    let two = length-append (rows_of_all c.other.inside.closed) c.other.inside.last.rows in
    let all = count-more c.self.inside.closed c.self.inside.last in
    rw pushed (omega (arith, room))

pub invariant_of-result : goal.invariant_of-result
invariant_of-result c =
    let pushed : c.push.new.self ≡ c.self.inside.closed ++ c.self.inside.last ∷ [] = search rules in
    let room = rw (← c.self.view_is, ← c.other.view_is) at c.requires.room in
    let types : c.other.inside.last.types ≡ c.self.inside.last.types = ap (λ (t : TableValue). t.types) c.other.view_is ∙ (c.requires.types ∙ sym (ap (λ (t : TableValue). t.types) c.self.view_is)) in
    joined-fit c.self.inside.names c.other.inside.names c.self.inside.closed c.other.inside.closed c.append.new.self c.self.inside.last c.other.inside.last c.self.invariant c.other.invariant types room
    (c.in_ok-append.ensures ∙ ap (λ l. l ++ c.other.inside.closed) pushed)

pub returns : goal.returns
returns c =
    let pushed : c.push.new.self ≡ c.self.inside.closed ++ c.self.inside.last ∷ [] = search rules in
    let types : c.other.inside.last.types ≡ c.self.inside.last.types = ap (λ (t : TableValue). t.types) c.other.view_is ∙ (c.requires.types ∙ sym (ap (λ (t : TableValue). t.types) c.self.view_is)) in
    rw (← c.self.view_is, ← c.other.view_is)
    (joined-shown c.self.inside.names c.self.inside.closed c.other.inside.closed c.append.new.self c.self.inside.last c.other.inside.last types (c.in_ok-append.ensures ∙ ap (λ l. l ++ c.other.inside.closed) pushed))
