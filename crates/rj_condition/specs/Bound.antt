-- A clause bound to two tables: every name resolved to a table and a column, or the first error (SQL-92, 7.5).
use Rattle.std.specs.Prelude.{Result, Ok}
use Rattle.rj_columns.specs.Tables.{TableValue}
use Rattle.rj_condition.specs.Resolved.{and_then, bound_on}
use Rattle.rj_condition.specs.Partners.{using, natural, no_partners}
use Rattle.rj_condition.specs.declared.tree.Clause.{Clause}
use Rattle.rj_condition.specs.declared.tree.Clause.TheVariants as clause
use Rattle.rj_condition.specs.declared.tree.JoinKind.TheVariants.{Inner}
use Rattle.rj_condition.specs.declared.bound.Rule.TheVariants as rule
use Rattle.rj_condition.specs.declared.bound.BoundJoin.{BoundJoin}
use Rattle.rj_condition.specs.declared.refused.BindRefused.{BindRefused}

unfoldable pub bound : Clause → TableValue → TableValue → Result BoundJoin BindRefused
bound clause.Cross l r = Ok record { kind = Inner; partners = no_partners l; rule = rule.AllPairs }
bound (clause.Natural kind) l r = and_then (natural l r) (λ ps. Ok record { kind = kind; partners = ps; rule = rule.EqualPartners })
bound (clause.Using kind names) l r = and_then (using l r names) (λ ps. Ok record { kind = kind; partners = ps; rule = rule.EqualPartners })
bound (clause.On kind c) l r = and_then (bound_on l r c) (λ b. Ok record { kind = kind; partners = no_partners l; rule = rule.Condition b })
