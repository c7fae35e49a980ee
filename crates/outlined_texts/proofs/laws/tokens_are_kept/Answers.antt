use Rattle.outlined_texts.proofs.KeptTokens.{keeps_tokens}
use Rattle.outlined_texts.proofs.laws.tokens_are_kept.Goals as goal

pub returns : goal.returns
returns c = keeps_tokens
