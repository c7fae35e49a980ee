use Rattle.std.proofs.Common.{inl, refl}
use Rattle.outline_values.specs.Names.{next_name}
use Rattle.outline_values.proofs.Places.{goes_next, goes_sign, ends_passed}
use Rattle.outline_values.proofs.Listed.{first_of, ends_listed}
use Rattle.outline_values.proofs.names.read_names.Goals as goal

pub returns-in-Some-clause-says : goal.returns-in-Some-clause-says
returns-in-Some-clause-says c = record {
  start = c.in_ok-start.start;
  open_bracket = c.in_ok-start.ensures.sign;
  end = c.in_ok-start.start;
  inside = inl (c.requires, refl);
  close_bracket = c.in-Some.ensures.sign;
}

pub returns-in-Some-clause-goes : goal.returns-in-Some-clause-goes
returns-in-Some-clause-goes c = goes_sign c.args.at c.in_ok-start.start c.in-Some.end c.in_ok-start.ensures.passes c.in-Some.ensures.passes.goes

pub loop-next-init : goal.loop-next-init
loop-next-init c = (
  goes_sign c.args.at c.in_ok-start.start c.in_ok-end.end c.in_ok-start.ensures.passes c.in_ok-end.ensures.goes,
  c.in_ok-start.start,
  c.in_ok-start.ensures.sign,
  first_of c.in_ok-start.start _ _ c.in_ok-end.end c.requires c.in_ok-end.ensures.adds,
)

pub loop-next-preserved : goal.loop-next-preserved
loop-next-preserved c = (
  goes_next c.args.at c.loop-next.end c.in-Some-behind_sign.next c.in_ok-end-2.end c.loop-next.invariant.0 c.in-Some-behind_sign.ensures.passes c.in_ok-end-2.ensures.goes,
  c.loop-next.invariant.1,
  c.loop-next.invariant.2,
  next_name c.loop-next.invariant.3 c.in-Some-behind_sign.ensures.sign c.in_ok-end-2.ensures.adds,
)

pub returns-clause-says : goal.returns-clause-says
returns-clause-says c = ends_listed c.args.at c.loop-next.invariant.1 c.loop-next.end _ c.expect-2.result c.loop-next.invariant.2 c.loop-next.invariant.3 c.expect-2.ensures.sign

pub returns-clause-goes : goal.returns-clause-goes
returns-clause-goes c = ends_passed c.args.at c.loop-next.end c.expect-2.result c.loop-next.invariant.0 c.expect-2.ensures.passes
