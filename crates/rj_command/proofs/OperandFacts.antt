-- Which fault is the first.
use Rattle.std.proofs.Common.{◌≡◌, ◌≢◌, ◌∙◌, ◌⊎◌, Bool, inl, inr, true, false, true≢false, List, None, Option, Result, Some, ℕ, Err, ap, ap₂, sym, subst}
use Rattle.std.specs.Prelude.{if◌then◌else◌, IfErr, IfOk, Ok}
use Rattle.rj_columns.specs.Tables.{TableValue}
use Rattle.rj_condition.specs.Bound.{bound}
use Rattle.rj_condition.specs.Fits.{fits}
use Rattle.rj_condition.specs.Joins.{kind_of_join}
use Rattle.rj_condition.specs.declared.tree.Clause.{Clause}
use Rattle.rj_condition.specs.declared.refused.BindRefused.{BindRefused}
use Rattle.rj_condition.specs.declared.refused.BindRefused.TheVariants as bind
use Rattle.rj_line.specs.declared.fault.Fault.{Fault}
use Rattle.rj_line.specs.declared.fault.Fault.TheVariants as fault
use Rattle.rj_line.specs.declared.fault.Side.{Side}
use Rattle.rj_line.specs.declared.fault.Side.TheVariants as side
use Rattle.rj_line.specs.declared.request.Request.{Request}
use Rattle.rj_command.specs.Operands.{AreHeaders, HasNames, HasNoHeaderFault, IsClauseFault, IsFirstFault, IsHeaderFault, IsJoinAsked, IsJoinFault, IsNameFault, in_clause, in_headers, in_left, in_right, of_clause, of_text, of_types, shared_fault, unbound, unread}
use Rattle.rj_command.specs.Refused.{bind_fault, parse_fault}
use Rattle.rj_command.specs.SuchRows.{asked_for, unkept_side, unless_unkept, with_rows}
use Rattle.rj_command.specs.Undeclared.{bound_or, undeclared_fault}
use Rattle.rj_command.specs.Undeclared as specs
use Rattle.rj_condition.specs.declared.bound.BoundJoin.{BoundJoin}
use Rattle.rj_command.specs.Sides.{IsTable, IsTableFault, has_lawful_nulls}
use Rattle.rj_command.specs.declared.join.operands.Operands.{Operands}
use Rattle.rj_condition.specs.Clauses.{HasClause, IsFault}
use Rattle.rj_condition.specs.declared.refused.ParseRefused.{ParseRefused}
use Rattle.rj_condition.specs.declared.refused.ParseRefused.TheVariants as parse

pub unread_fault : (text : List ℕ) (l r : TableValue) (e : ParseRefused) (f : Fault) → IsFault text e → f ≡ parse_fault e → f ≢ fault.Memory → IsJoinFault text l r f
unread_fault text l r e f told is not =
    let other : e ≢ parse.Memory = λ memory. not (is ∙ ap parse_fault memory) in
    subst (IsJoinFault text l r) (sym is) (unread e other told)

pub unbound_fault : (text : List ℕ) (l r : TableValue) (c : Clause) (e : BindRefused) (f : Fault) → HasClause text c → (e ≢ bind.Memory → bound c l r ≡ Err e)
    → f ≡ bind_fault e → f ≢ fault.Memory → IsJoinFault text l r f
unbound_fault text l r c e f has told is not =
    let other : e ≢ bind.Memory = λ memory. not (is ∙ ap bind_fault memory) in
    subst (IsJoinFault text l r) (sym is) (unbound c e has (told other))

pub types_fault : (q : Request) (l r : TableValue) (f : Fault) → (f ≢ fault.Memory → shared_fault q l r ≡ Some f) → f ≢ fault.Memory → IsClauseFault q l r f
types_fault q l r f told not = of_types f (told not)

pub text_fault : (q : Request) (l r : TableValue) (e : ParseRefused) (f : Fault) → IsFault q.clause.now e → shared_fault q l r ≡ None → f ≡ parse_fault e → f ≢ fault.Memory
    → IsClauseFault q l r f
text_fault q l r e f told named is not =
    let other : e ≢ parse.Memory = λ memory. not (is ∙ ap parse_fault memory) in
    subst (IsClauseFault q l r) (sym is) (of_text e other told named)

-- what a clause is bound as where the answer of binding and the fault of an undeclared column are known
pub asked_by : (q : Request) (l r : TableValue) (c : Clause) (u : Option Fault) (answer : Result BoundJoin BindRefused) → u ≡ undeclared_fault q l r c
    → bound c l r ≡ answer → asked_for q l r c ≡ with_rows q (bound_or answer u)
asked_by q l r c u answer known is = ap (with_rows q) (ap₂ bound_or is (sym known))

pub binding_fault : (q : Request) (l r : TableValue) (c : Clause) (u : Option Fault) (e : BindRefused) (f : Fault) → HasClause q.clause.now c → shared_fault q l r ≡ None → u ≡ undeclared_fault q l r c
    → (e ≢ bind.Memory → bound c l r ≡ Err e) → f ≡ specs.unbound_fault e u → f ≢ fault.Memory → IsClauseFault q l r f
binding_fault q l r c u e f has named known told is not =
    let other : e ≢ bind.Memory = λ memory. not (is ∙ ap (λ x. specs.unbound_fault x u) memory) in
    of_clause c f has (asked_by q l r c u (Err e) known (told other) ∙ ap Err (sym is)) named

module _ (q : Request) (l r : TableValue) (c : Clause) (join : BoundJoin) (has : HasClause q.clause.now c) (named : shared_fault q l r ≡ None) (is : bound c l r ≡ Ok join)
    (u : Option Fault) (known : u ≡ undeclared_fault q l r c) where
  -- the join of a clause that binds, where the fault of an undeclared column is known
  pub asked_join : (result : Result BoundJoin Fault) → result ≡ with_rows q (bound_or (Ok join) u) → IfOk result (IsJoinAsked q l r)
  asked_join (Ok asked) same = (c, has, asked_by q l r c u (Ok join) known is ∙ sym same, named)
  asked_join (Err f) same = tt

  -- and its fault
  pub asked_fault : (result : Result BoundJoin Fault) → result ≡ with_rows q (bound_or (Ok join) u) → IfErr result (λ f. f ≢ fault.Memory → IsClauseFault q l r f)
  asked_fault (Ok asked) same = tt
  asked_fault (Err f) same = λ not. of_clause c f has (asked_by q l r c u (Ok join) known is ∙ sym same) named

-- a join that keeps the rows that are asked for is the one that was bound
kept_same : (join asked : BoundJoin) (o : Option Side) → Ok asked ≡ unless_unkept join o → asked ≡ join
kept_same join asked None same = let g : ◌≡◌ {A = Result BoundJoin Fault} (Ok asked) (Ok join) = same in cc
kept_same join asked (Some s) same = let g : ◌≡◌ {A = Result BoundJoin Fault} (Ok asked) (Err (fault.NoSuchRows s)) = same in cc

asked_same : (q : Request) (join asked : BoundJoin) (u : Option Fault) → Ok asked ≡ with_rows q (bound_or (Ok join) u) → asked ≡ join
asked_same q join asked None same = kept_same join asked (if q.short then unkept_side q.choice.rows (kind_of_join join) else None) same
asked_same q join asked (Some f) same = let g : ◌≡◌ {A = Result BoundJoin Fault} (Ok asked) (Err f) = same in cc

-- and so it fits its tables
pub asked_fits : (q : Request) (l r : TableValue) (join : BoundJoin) (u : Option Fault) (result : Result BoundJoin Fault) → result ≡ with_rows q (bound_or (Ok join) u)
    → fits join l.types r.types ≡ true → IfOk result (λ asked. fits asked l.types r.types ≡ true)
asked_fits q l r join u (Ok asked) same fit = subst (λ (x : BoundJoin). fits x l.types r.types ≡ true) (sym (asked_same q join asked u same)) fit
asked_fits q l r join u (Err f) same fit = tt

module _ (named : Bool) (left right : List ℕ) (q : Request) where
  -- no clause has a fault over headers in the long form
  pub none_in_long_form : q.short ≡ false → HasNoHeaderFault named left right q
  none_in_long_form long = record { binds = λ short. absurd (true≢false (sym short ∙ long)) }

  -- nor where a text for null isn't valid
  pub none_by_nulls : has_lawful_nulls q ≡ false → HasNoHeaderFault named left right q
  none_by_nulls unlawful = record {
    binds = λ short l r are. let no : ◌≡◌ {A = Result TableValue Fault} (Err fault.BadNull) (Ok l) = rw unlawful at are.left_header in absurd (cc);
  }

  module _ (l r : TableValue) (are : AreHeaders left right q l r) where
    -- nor where it is bound to both, and the columns have names
    pub none_where_bound : (o : Operands) → (o.left ≡ l) × (o.right ≡ r) × IsJoinAsked q l r o.join
        → (named ≡ true → HasNames q o.join o.left o.right) → HasNoHeaderFault named left right q
    none_where_bound o bound names = record {
      binds = λ short t u also.
          let lefts : ◌≡◌ {A = Result TableValue Fault} (Ok l) (Ok t) = sym are.left_header ∙ also.left_header in
          let rights : ◌≡◌ {A = Result TableValue Fault} (Ok r) (Ok u) = sym are.right_header ∙ also.right_header in
          let left_same : l ≡ t = cc in
          let right_same : r ≡ u = cc in (
            o.join,
            subst (λ (x : TableValue). IsJoinAsked q x u o.join) left_same (subst (λ (x : TableValue). IsJoinAsked q l x o.join) right_same bound.2),
            λ are_named. subst (λ (x : TableValue). HasNames q o.join x u) (bound.0 ∙ left_same)
                (subst (λ (x : TableValue). HasNames q o.join o.left x) (bound.1 ∙ right_same) (names are_named)),
          );
    }

    -- and else it has that of binding it
    pub fault_of_headers : (f : Fault) → q.short ≡ true → (f ≢ fault.Memory → IsClauseFault q l r f) → f ≢ fault.Memory → IsHeaderFault named left right q f
    fault_of_headers f short told not = record { short = short; l = l; r = r; headers = are; told = inl (told not) }

    -- or that of the names
    pub fault_of_names : (o : Operands) (f : Fault) → q.short ≡ true → (o.left ≡ l) × (o.right ≡ r) × IsJoinAsked q l r o.join
        → (f ≡ fault.Memory) ⊎ ((named ≡ true) × IsNameFault q o.join o.left o.right f) → f ≢ fault.Memory → IsHeaderFault named left right q f
    fault_of_names o f short bound told not = elim told [
      | inl memory ↦ absurd (not memory)
      | inr nameless ↦ record {
        short = short;
        l = l;
        r = r;
        headers = are;
        told = inr (
          nameless.0,
          o.join,
          bound.2,
          subst (λ (x : TableValue). IsNameFault q o.join x r f) bound.0
              (subst (λ (x : TableValue). IsNameFault q o.join o.left x f) bound.1 nameless.1),
        );
      }
    ]

  pub header_fault : (f : Fault) → (f ≢ fault.Memory → IsHeaderFault named left right q f) → f ≢ fault.Memory → IsFirstFault named left right q f
  header_fault f told not = in_headers f (told not)

  module _ (none : HasNoHeaderFault named left right q) where
    pub left_fault : (f : Fault) → (f ≢ fault.Memory → IsTableFault q side.Left left f) → f ≢ fault.Memory → IsFirstFault named left right q f
    left_fault f told not = in_left f none (told not)

    pub right_fault : (l : TableValue) (f : Fault) → IsTable q side.Left left l → (f ≢ fault.Memory → IsTableFault q side.Right right f)
        → f ≢ fault.Memory → IsFirstFault named left right q f
    right_fault l f is told not = in_right l f none is (told not)

    pub clause_fault : (l r : TableValue) (f : Fault) → IsTable q side.Left left l → IsTable q side.Right right r
        → (f ≢ fault.Memory → IsClauseFault q l r f) → f ≢ fault.Memory → IsFirstFault named left right q f
    clause_fault l r f is ris told not = in_clause l r f none is ris (told not)
