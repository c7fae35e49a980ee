use Rattle.std.proofs.Common.{ℕ, List}
use Rattle.std.specs.Borrow.{Bor}
use Rattle.kit_verifier.proofs.Keys.{text_eq, text_own, text_same}
use Rattle.kit_verifier.proofs.Sets.{gained, tells_old}
use Rattle.kit_verifier.proofs.repeats.add_text.Goals as goal

pub returns-clause-known : goal.returns-clause-known
returns-clause-known c = tells_old text_eq (λ (k : Bor (List ℕ)). k.now) text_same text_own c.args.texts.now.keys c.args.text c.in_ok-insert.field-0 c.in_ok-insert.ensures.added

pub returns-clause-texts : goal.returns-clause-texts
returns-clause-texts c = gained text_eq (λ (k : Bor (List ℕ)). k.now) text_same text_own c.args.texts.now.keys c.insert.new.self.keys c.args.text c.in_ok-insert.ensures.keys
