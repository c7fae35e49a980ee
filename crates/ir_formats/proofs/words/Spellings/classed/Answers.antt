use Rattle.std.proofs.Common.{◌∙◌, ap, ℕ, Option, Vec}
use Rattle.std.specs.Global.{Global}
use Rattle.ir_characters.specs.Texts.{codes_of}
use Rattle.ir_formats.proofs.Signs.{met_kind, met_known, met_name, signs_kept}
use Rattle.ir_tokens.specs.declared.tokens.TokenKind.TheVariants.{Sign}
use Rattle.ir_formats.proofs.words.Spellings.classed.Goals as goal

pub returns-in-Some-clause-kind : goal.returns-in-Some-clause-kind
returns-in-Some-clause-kind c =
    met_kind _ _ (codes_of c.args.chars) _ (Sign c.at.result) c.args.at _ _ c.requires.begins c.requires.signs c.in-Some.ensures.1

pub returns-in-Some-clause-name : goal.returns-in-Some-clause-name
returns-in-Some-clause-name c =
    met_name _ _ (codes_of c.args.chars) _ (Sign c.at.result) c.args.at _ _ c.requires.begins c.requires.signs c.in-Some.ensures.1

pub returns-in-Some-clause-known : goal.returns-in-Some-clause-known
returns-in-Some-clause-known c =
    met_known _ _ (codes_of c.args.chars) _ (Sign c.at.result) c.args.at _ _ c.requires.begins c.requires.signs c.in-Some.ensures.1

pub returns-clause-signs : goal.returns-clause-signs
returns-clause-signs c =
    signs_kept _ _ _ (codes_of c.args.chars) _ _ _ c.token_at-token.result _ _ c.requires.signs
    (ap (λ (v : Vec (Option (ℕ × ℕ)) Global). v.items) c.token.ensures.signs) c.token_at-token.ensures.token
    (c.keep.ensures.known ∙ c.in_ok-kind.ensures.known) c.in_ok-kind.ensures.kind c.in_ok-kind.ensures.name
    c.keep.ensures.signs
