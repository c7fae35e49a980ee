use Rattle.std.proofs.Common.{◌≡◌, ◌+◌, ◌∙◌, ap, map, length, refl, Vec}
use Rattle.std.specs.Global.{Global}
use Rattle.ir_grammar.specs.declared.grammar.Rule.{Rule}
use Rattle.ir_formats.specs.Rules.{texts, classes_of, plain_classes, plain_rules}
use Rattle.ir_formats.specs.Given.{dense, plain_part}
use Rattle.ir_formats.specs.Making.{formats_of}
use Rattle.ir_formats.specs.Ordered.{is_ordered}
use Rattle.ir_formats.specs.Predicting.{plain_facts}
use Rattle.ir_formats.proofs.Predictable.{can_read_given}
use Rattle.ir_formats.proofs.Ordered.{orders_texts}
use Rattle.ir_formats.proofs.rules.grammar_of_kinds.Goals as goal

pub returns-clause-can_read : goal.returns-clause-can_read
returns-clause-can_read c =
    let words = c.in_ok-words.field-0.words.items in
    let spelled = c.in_ok-words.ensures.words in
    let table = map plain_part c.args.table.now in
    let rules = ap (λ (v : Vec Rule Global). plain_rules v.items) c.in_ok-grammar.ensures.rules ∙ c.in_ok-words.ensures.rules in
    let signs : plain_classes c.in_ok-grammar.grammar.signs.items ≡ classes_of (texts words)
    = rw c.deref.ensures.value at c.in_ok-grammar.ensures.signs in
    let parts : map plain_facts c.in_ok-grammar.grammar.parts.items ≡ map (dense (length words + 8)) table
    = rw c.deref.ensures.value at c.in_ok-grammar.ensures.parts in
    can_read_given _ (formats_of c.args.kinds.now) words table _ rules (signs ∙ ap classes_of spelled) parts spelled refl c.requires.table

pub returns-clause-ordered : goal.returns-clause-ordered
returns-clause-ordered c leads so =
    let rules = ap (λ (v : Vec Rule Global). plain_rules v.items) c.in_ok-grammar.ensures.rules ∙ c.in_ok-words.ensures.rules in
    orders_texts _ leads (ap (is_ordered leads) rules ∙ so)
