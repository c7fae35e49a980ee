use Rattle.std.proofs.Common.{◌≤◌, ℕ, sym, subst, inl, inr, List, Option, Ok, Some}
use Rattle.std.proofs.lemmas.Fn.{FoldsTo-push}
use Rattle.text_streams.specs.Positions.{bytes_left}
use Rattle.text_lists.specs.Members.{Answers}
use Rattle.text_lists.specs.Repeated.{AreAnswered}
use Rattle.text_lists.proofs.ListLemmas.{exit}
use Rattle.text_lists.proofs.repeated.read_all.Goals as goal

pub returns-in_err-value : goal.returns-in_err-value
returns-in_err-value g c = exit _ _ c.from_residual.result c.in_err-value.field-0.0 c.from_residual.ensures.1 (record {
  values = c.values.values.items;
  at = (c.values.parser, c.values.stream);
  read = c.values.invariant;
  why = inl ((c.call.new.parser, c.call.new.stream), c.in_err-value.ensures);
})

pub returns-in_default : goal.returns-in_default
returns-in_default g c =
    let P : Option g.row.T.Denot → Type 0 = λ value.
    Answers g.F.FnMut (c.values.parser, c.values.stream) (Ok value) (c.call.new.parser, c.call.new.stream) in
    record {
      at = (c.values.parser, c.values.stream);
      read = c.values.invariant;
      left = c.call.new.parser;
      ended = subst P c.in_default.is c.in_ok-value.ensures;
    }

pub returns-in_err-needs_less : goal.returns-in_err-needs_less
returns-in_err-needs_less g c =
    let P : Option g.row.T.Denot → Type 0 = λ value.
    Answers g.F.FnMut (c.values.parser, c.values.stream) (Ok value) (c.call.new.parser, c.call.new.stream) in
    let Q : ℕ → Type 0 = λ n. n ≤ bytes_left c.call.new.stream.position in
    exit _ _ c.from_residual-in_err-needs_less.result c.in_err-needs_less.field-0.0 c.from_residual-in_err-needs_less.ensures.1 (record {
      values = c.values.values.items;
      at = (c.values.parser, c.values.stream);
      read = c.values.invariant;
      why = inr (inr (
        c.in_err-needs_less.ensures.0,
        c.in-Some.value,
        (c.call.new.parser, c.call.new.stream),
        subst P c.in-Some.is c.in_ok-value.ensures,
        subst Q c.bytes_left-left.ensures c.in_err-needs_less.ensures.1,
      ));
    })

pub values-preserved : goal.values-preserved
values-preserved g c =
    let P : Option g.row.T.Denot → Type 0 = λ value.
    Answers g.F.FnMut (c.values.parser, c.values.stream) (Ok value) (c.call.new.parser, c.call.new.stream) in
    let Q : List g.row.T.Denot → Type 0 = λ values.
    AreAnswered g.F.FnMut (c.args.parser, c.args.stream.now) values (c.call.new.parser, c.call.new.stream) in
    subst Q (sym c.in_ok-add.ensures)
    (FoldsTo-push (λ v x w. Answers g.F.FnMut v (Ok (Some x)) w) (c.args.parser, c.args.stream.now) c.values.values.items (c.values.parser, c.values.stream)
    c.in-Some.value (c.call.new.parser, c.call.new.stream) c.values.invariant (subst P c.in-Some.is c.in_ok-value.ensures))

pub returns-in_err-add : goal.returns-in_err-add
returns-in_err-add g c = exit _ _ c.from_residual-in_err-add.result c.in_err-add.field-0.0 c.from_residual-in_err-add.ensures.1 (record {
  values = c.values.values.items;
  at = (c.values.parser, c.values.stream);
  read = c.values.invariant;
  why = inr (inl c.in_err-add.ensures);
})
