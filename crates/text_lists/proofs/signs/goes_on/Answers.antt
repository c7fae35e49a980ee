use Rattle.std.proofs.Common.{refl, sym, subst, ℕ, Option}
use Rattle.text_lists.specs.Signs.{GoesOn}
use Rattle.text_lists.proofs.signs.goes_on.Goals as goal

pub returns-in-Some-clause-on : goal.returns-in-Some-clause-on
returns-in-Some-clause-on g c = λ there.
    let P : Option ℕ → Type 0 = λ sign. GoesOn sign c.args.stream.now c.take_sign.new.stream in
    subst P (sym c.in-Some.is) (record {
      behind = record { position = c.skip_spaces-stream.result; state = c.args.stream.now.state };
      spaces = record { behind = c.skip_spaces-stream.ensures; state = refl };
      signed = c.take_sign.ensures.there there;
    })

pub returns-in-None-clause-on : goal.returns-in-None-clause-on
returns-in-None-clause-on g c = λ _.
    let P : Option ℕ → Type 0 = λ sign. GoesOn sign c.args.stream.now (record { position = c.skip_spaces-stream.result; state = c.args.stream.now.state }) in
    subst P (sym c.in-None.is) (record {
      behind = record { position = c.skip_spaces-stream.result; state = c.args.stream.now.state };
      spaces = record { behind = c.skip_spaces-stream.ensures; state = refl };
      signed = refl;
    })
