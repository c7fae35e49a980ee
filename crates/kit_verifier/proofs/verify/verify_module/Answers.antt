use Rattle.kit_verifier.proofs.verify.verify_module.Goals as goal

pub returns-then-keeps_all : goal.returns-then-keeps_all
returns-then-keeps_all c t s r = c.in_ok-keeps_all.ensures.0 c.if-keeps_all.true r t s
