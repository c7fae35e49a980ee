use Rattle.std.proofs.Common.{Bor, ap, ◌∙◌}
use Rattle.ir_characters.specs.Texts.{codes_of}
use Rattle.outlined_texts.specs.declared.splitting.OutlinedText.{OutlinedText}
use Rattle.irkit_outlines.proofs.Fronts.{loads_bare, loads_front, refuses_bare}
use Rattle.irkit_outlines.proofs.reading.load.Goals as goal

pub returns-then-is_bare-clause-loads : goal.returns-then-is_bare-clause-loads
returns-then-is_bare-clause-loads c =
    loads_front c.args.text.now (codes_of c.as_text-all.result) c.in_ok-split.split (c.as_text-all.ensures ∙ c.in_ok-chars.ensures) c.in_ok-split.ensures.split
    c.new-parts.result.split (ap (λ (b : Bor OutlinedText). b.now) c.new-parts.ensures) c.args.ctx.now c.load_bare.new.ctx c.load_bare.result c.load_bare.ensures.loads

pub returns-then-is_bare-clause-whole : goal.returns-then-is_bare-clause-whole
returns-then-is_bare-clause-whole c = λ bare.
    loads_bare c.args.text.now (codes_of c.as_text-all.result) c.in_ok-split.split (c.as_text-all.ensures ∙ c.in_ok-chars.ensures) c.in_ok-split.ensures.split
    c.new-parts.result.split (ap (λ (b : Bor OutlinedText). b.now) c.new-parts.ensures) c.args.ctx.now c.load_bare.new.ctx c.load_bare.result c.utf8.text
    c.in_ok-split.ensures.plain bare c.load_bare.ensures.loads

pub returns-then-is_bare-clause-refused : goal.returns-then-is_bare-clause-refused
returns-then-is_bare-clause-refused c = λ bare.
    refuses_bare c.args.text.now (codes_of c.as_text-all.result) c.in_ok-split.split (c.as_text-all.ensures ∙ c.in_ok-chars.ensures) c.in_ok-split.ensures.split
    c.new-parts.result.split (ap (λ (b : Bor OutlinedText). b.now) c.new-parts.ensures) c.args.ctx.now c.load_bare.new.ctx c.load_bare.result c.utf8.text
    c.in_ok-split.ensures.plain bare c.load_bare.ensures.refused

pub returns-clause-loads : goal.returns-clause-loads
returns-clause-loads c =
    loads_front c.args.text.now (codes_of c.as_text-all.result) c.in_ok-split.split (c.as_text-all.ensures ∙ c.in_ok-chars.ensures) c.in_ok-split.ensures.split
    c.new-parts.result.split (ap (λ (b : Bor OutlinedText). b.now) c.new-parts.ensures) c.args.ctx.now c.load_split.new.ctx c.load_split.result c.load_split.ensures.loads
