-- What may come next, as classes of tokens.
use Rattle.std.proofs.Common.{◌≡◌, refl, sym, ap, ◌∙◌, Bool, true, false, ◌||◌, List, Bor, if◌then◌else◌}
use Rattle.ir_print.specs.declared.format.Directive.{Directive}
use Rattle.ir_print.specs.Formats.{Steps, steps_of}
use Rattle.ir_format_checks.specs.declared.decided.Next.{Next, Next-F, fold-Next, fold-roll-Next}
use Rattle.ir_format_checks.specs.declared.decided.Next as next
use Rattle.ir_format_checks.specs.declared.decided.Next.TheVariants.{rolls-Directives}
use Rattle.ir_format_checks.specs.Tokens.{TokenClass}
use Rattle.ir_format_checks.specs.Decided.{all_begin, all_may_be_empty, anything, these, or_next}
use Rattle.ir_format_checks.specs.Test.{Classes, overlap, meets, next_of}
use Rattle.ir_format_checks.specs.Values.{classes_of, classes_by}

pub classes_of-Directives : (ds : Bor (List Directive)) (outer : Bor Next) → classes_of (next.Directives ds outer) ≡ next_of (steps_of ds.now) (classes_of outer.now)
classes_of-Directives ds outer = ap classes_of (sym (rolls-Directives ds outer)) ∙ fold-roll-Next Classes classes_by (Next-F.Directives ds outer)

-- What is met by parts is met by them with what comes behind them.
met : (b : Bool) (p : TokenClass → Bool) (outer : Classes) (c : TokenClass) → p c ≡ true → meets (if b then or_next p outer else these p) c ≡ true
met true p anything c h = refl
met true p (these q) c h = ap (λ z. z || q c) h
met false p outer c h = h

pub meets_first : (ss : Steps) (outer : Classes) (c : TokenClass) → all_begin (overlap c) ss ≡ true → meets (next_of ss outer) c ≡ true
meets_first ss outer c h = met (all_may_be_empty ss) (λ d. all_begin (overlap d) ss) outer c h
