-- What each directive stands for.
use Rattle.std.proofs.Common.{◌≡◌, refl, ap, sym, ◌∙◌, List, [], ◌∷◌, map, ℕ, Bor}
use Rattle.std.specs.Str.{trim}
use Rattle.ir_print.specs.Formats.{steps_of, step_of, Step, a_choice, choices, choices_of, choice_of, step_by, word, operands, operand, successor, a_value, a_region, symbol_name, a_leaf, list_of}
use Rattle.ir_print.specs.declared.format.Directive.{Directive, Directive-F, fold-Directive, fold-roll-Directive}
use Rattle.ir_print.specs.declared.format.Directive as directive
use Rattle.ir_print.specs.declared.format.LeafSort.TheVariants as leaves
use Rattle.ir_print.specs.declared.format.ValueSort.TheVariants as sorts
use Rattle.ir_print.specs.declared.format.Directive.TheVariants.{rolls-List, rolls-Literal, rolls-Operands, rolls-Operand, rolls-Successor, rolls-Attribute, rolls-Type, rolls-Region, rolls-SymbolHeader, rolls-Name, rolls-Number, rolls-Digits, rolls-Text, rolls-Mark, rolls-Width, rolls-Choice}

pub step_of-Literal : (text : Bor (List ℕ)) → step_of (directive.Literal text) ≡ word text.now (trim text.now)
step_of-Literal text = ap step_of (sym (rolls-Literal text)) ∙ fold-roll-Directive Step step_by (Directive-F.Literal text)

pub step_of-List : (member : Bor (List Directive)) (text : Bor (List ℕ)) → step_of (directive.List member text) ≡ list_of (steps_of member.now) text.now (trim text.now)
step_of-List member text = ap step_of (sym (rolls-List member text)) ∙ fold-roll-Directive Step step_by (Directive-F.List member text)

pub step_of-Operands : step_of directive.Operands ≡ operands
step_of-Operands = ap step_of (sym rolls-Operands) ∙ fold-roll-Directive Step step_by Directive-F.Operands

pub step_of-Operand : step_of directive.Operand ≡ operand
step_of-Operand = ap step_of (sym rolls-Operand) ∙ fold-roll-Directive Step step_by Directive-F.Operand

pub step_of-Successor : step_of directive.Successor ≡ successor
step_of-Successor = ap step_of (sym rolls-Successor) ∙ fold-roll-Directive Step step_by Directive-F.Successor

pub step_of-Attribute : step_of directive.Attribute ≡ a_value sorts.Attribute
step_of-Attribute = ap step_of (sym rolls-Attribute) ∙ fold-roll-Directive Step step_by Directive-F.Attribute

pub step_of-Type : step_of directive.«Type» ≡ a_value sorts.«Type»
step_of-Type = ap step_of (sym rolls-Type) ∙ fold-roll-Directive Step step_by Directive-F.«Type»

pub step_of-Region : step_of directive.Region ≡ a_region
step_of-Region = ap step_of (sym rolls-Region) ∙ fold-roll-Directive Step step_by Directive-F.Region

pub step_of-SymbolHeader : step_of directive.SymbolHeader ≡ symbol_name
step_of-SymbolHeader = ap step_of (sym rolls-SymbolHeader) ∙ fold-roll-Directive Step step_by Directive-F.SymbolHeader

pub step_of-Name : step_of directive.Name ≡ a_leaf leaves.Name
step_of-Name = ap step_of (sym rolls-Name) ∙ fold-roll-Directive Step step_by Directive-F.Name

pub step_of-Number : step_of directive.Number ≡ a_leaf leaves.Number
step_of-Number = ap step_of (sym rolls-Number) ∙ fold-roll-Directive Step step_by Directive-F.Number

pub step_of-Digits : step_of directive.Digits ≡ a_leaf leaves.Digits
step_of-Digits = ap step_of (sym rolls-Digits) ∙ fold-roll-Directive Step step_by Directive-F.Digits

pub step_of-Text : step_of directive.Text ≡ a_leaf leaves.Text
step_of-Text = ap step_of (sym rolls-Text) ∙ fold-roll-Directive Step step_by Directive-F.Text

pub step_of-Mark : step_of directive.Mark ≡ a_leaf leaves.Mark
step_of-Mark = ap step_of (sym rolls-Mark) ∙ fold-roll-Directive Step step_by Directive-F.Mark

pub step_of-Width : step_of directive.Width ≡ a_leaf leaves.Width
step_of-Width = ap step_of (sym rolls-Width) ∙ fold-roll-Directive Step step_by Directive-F.Width

-- what stands behind a borrow, with each directive as the step that it stands for
abbrev as_steps : Bor (List Directive) → Bor (List Step)
as_steps b = record { ref_ptr = b.ref_ptr; now = map step_of b.now }

choices_are : (fs : List (Bor (List Directive))) → choices (map as_steps fs) ≡ choices_of fs
choices_are [] = refl
choices_are (f ∷ fs) = ap (λ cs. a_choice (steps_of f.now) cs) (choices_are fs)

pub step_of-Choice : (alternatives : Bor (List (Bor (List Directive)))) → step_of (directive.Choice alternatives) ≡ choice_of (choices_of alternatives.now)
step_of-Choice alternatives =
    ap step_of (sym (rolls-Choice alternatives))
    ∙ (fold-roll-Directive Step step_by (Directive-F.Choice alternatives)
    ∙ ap (λ cs. choice_of cs) (choices_are alternatives.now))

-- what the directives of a format stand for
pub ruleset step_rules = (step_of-Literal, step_of-List, step_of-Choice, step_of-Digits, step_of-Text, step_of-Mark, step_of-Operands, step_of-Operand, step_of-Successor, step_of-Attribute, step_of-Type, step_of-Region, step_of-SymbolHeader, step_of-Name, step_of-Number, step_of-Width)
