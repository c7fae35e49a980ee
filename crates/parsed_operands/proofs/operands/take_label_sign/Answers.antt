use Rattle.std.proofs.Common.{refl, subst, ℕ, [], ◌∷◌}
use Rattle.text_streams.specs.Positions.{LiesBehind}
use Rattle.parsed_operands.proofs.operands.take_label_sign.Goals as goal

pub returns-in-Some-clause-there : goal.returns-in-Some-clause-there
returns-in-Some-clause-there g c = λ _.
    let P : ℕ → Type 0 = λ sign. LiesBehind c.args.stream.now.position c.in-Some.behind (sign ∷ []) in
    record {
      behind = record { position = c.in-Some.behind; state = c.args.stream.now.state };
      sign = record { behind = subst P c.if-sign-eq94.true c.in-Some.ensures; state = refl };
      spaces = record { behind = c.skip_spaces-stream.ensures; state = refl };
    }
