-- The rules of formats among those of their grammar.
use Rattle.std.proofs.Common.{◌≡◌, ℕ, zero, suc, ◌+◌, List, [], ◌∷◌, ◌++◌, Some, slice_get, refl, sym, subst, inl, inr, arith}
use Rattle.ir_print.specs.Formats.{Formats, Kind}
use Rattle.ir_grammar.specs.declared.grammar.Symbol.TheVariants.{Act}
use Rattle.ir_grammar.specs.declared.grammar.Rule.{Rule}
use Rattle.ir_formats.specs.declared.rules.Sort.{Sort}
use Rattle.ir_formats.specs.declared.rules.Sort.TheVariants as sort
use Rattle.ir_formats.specs.Rules.{PlainRule, sign, steps_made, part_of, begin_of, end_of, kinds_of, kind_made, kinds_made, formats_made, words_of, operation_rules, region_rules, block_rules, argument_rules, rules_of, plain_rule, plain_rules}
use Rattle.ir_rereading.proofs.layouts.Among.{IsAmong, AreAmong, among_at, among_front, among_back}

-- ---- rules of the frame

-- all rules behind those of the frame
abbrev made_rules : Formats → List PlainRule
made_rules f = (formats_made (words_of f) f).rules

pub operation_rule : (f : Formats) (r : PlainRule) (i : ℕ) → slice_get (operation_rules (words_of f)) i ≡ Some r → IsAmong r (rules_of f)
operation_rule f r i e = let ws = words_of f in among_front r (operation_rules ws) (region_rules ws ++ (block_rules ws ++ (argument_rules ws ++ made_rules f))) (among_at r (operation_rules ws) i e)

pub region_rule : (f : Formats) (r : PlainRule) (i : ℕ) → slice_get (region_rules (words_of f)) i ≡ Some r → IsAmong r (rules_of f)
region_rule f r i e =
    let ws = words_of f in
    among_back r (operation_rules ws) (region_rules ws ++ (block_rules ws ++ (argument_rules ws ++ made_rules f))) (among_front r (region_rules ws) (block_rules ws ++ (argument_rules ws ++ made_rules f)) (among_at r (region_rules ws) i e))

pub block_rule : (f : Formats) (r : PlainRule) (i : ℕ) → slice_get (block_rules (words_of f)) i ≡ Some r → IsAmong r (rules_of f)
block_rule f r i e =
    let ws = words_of f in
    among_back r (operation_rules ws) (region_rules ws ++ (block_rules ws ++ (argument_rules ws ++ made_rules f)))
    (among_back r (region_rules ws) (block_rules ws ++ (argument_rules ws ++ made_rules f)) (among_front r (block_rules ws) (argument_rules ws ++ made_rules f) (among_at r (block_rules ws) i e)))

pub argument_rule : (f : Formats) (r : PlainRule) (i : ℕ) → slice_get (argument_rules (words_of f)) i ≡ Some r → IsAmong r (rules_of f)
argument_rule f r i e =
    let ws = words_of f in
    among_back r (operation_rules ws) (region_rules ws ++ (block_rules ws ++ (argument_rules ws ++ made_rules f)))
    (among_back r (region_rules ws) (block_rules ws ++ (argument_rules ws ++ made_rules f)) (among_back r (block_rules ws) (argument_rules ws ++ made_rules f) (among_front r (argument_rules ws) (made_rules f) (among_at r (argument_rules ws) i e))))

made_rule : (f : Formats) (r : PlainRule) → IsAmong r (made_rules f) → IsAmong r (rules_of f)
made_rule f r h =
    let ws = words_of f in
    among_back r (operation_rules ws) (region_rules ws ++ (block_rules ws ++ (argument_rules ws ++ made_rules f)))
    (among_back r (region_rules ws) (block_rules ws ++ (argument_rules ws ++ made_rules f)) (among_back r (block_rules ws) (argument_rules ws ++ made_rules f) (among_back r (argument_rules ws) (made_rules f) h)))

-- ---- rules of kinds

-- The grammar has the rule of a kind of this number, and those of its lists from this part on.
pub record HasKind (f : Formats) (s : Sort) (i : ℕ) (k : Kind) : Type 0 where
  pub part : ℕ
  pub rules : AreAmong (steps_made (words_of f) k.format part).rules (rules_of f)
  pub rule : IsAmong (part_of s, sign (words_of f) k.id ∷ Act (begin_of s i) ∷ ((steps_made (words_of f) k.format part).symbols ++ Act (end_of s) ∷ [])) (rules_of f)

kind_in : (ws : List (List ℕ)) (s : Sort) (ks : List Kind) (i j m n : ℕ) (k : Kind) → m ≡ i + j → slice_get ks j ≡ Some k → (p : ℕ) × AreAmong (kind_made ws s m k p).rules (kinds_made ws s i ks n).rules
kind_in ws s [] i j m n k e at = cc
kind_in ws s (x ∷ ks) i zero m n k e at =
    let same : x ≡ k = let t : Some x ≡ Some k = at in cc in
    let number : i ≡ m = omega (arith, e) in (
      n,
      record {
        among = λ r h. among_front r (kind_made ws s i x n).rules (kinds_made ws s (suc i) ks (kind_made ws s i x n).next).rules
            (subst (λ y. IsAmong r (kind_made ws s y x n).rules) (sym number) (subst (λ (y : Kind). IsAmong r (kind_made ws s m y n).rules) (sym same) h));
      },
    )
kind_in ws s (x ∷ ks) i (suc j) m n k e at =
    let next = (kind_made ws s i x n).next in
    let r = kind_in ws s ks (suc i) j m next k (omega (arith, e)) at in
    (r.0, record { among = λ q h. among_back q (kind_made ws s i x n).rules (kinds_made ws s (suc i) ks next).rules (r.1.among q h) })

-- the parts that the lists of each sort begin at
abbrev first_part : Formats → Sort → ℕ
first_part f sort.Operation = 14
first_part f sort.«Type» = (kinds_made (words_of f) sort.Operation 0 f.operations 14).next
first_part f sort.Attribute = (kinds_made (words_of f) sort.«Type» 0 f.types (kinds_made (words_of f) sort.Operation 0 f.operations 14).next).next

sort_rules : (f : Formats) (s : Sort) (r : PlainRule) → IsAmong r (kinds_made (words_of f) s 0 (kinds_of f s) (first_part f s)).rules → IsAmong r (made_rules f)
sort_rules f sort.Operation r h = among_front r (kinds_made (words_of f) sort.Operation 0 f.operations 14).rules _ h
sort_rules f sort.«Type» r h =
    among_back r (kinds_made (words_of f) sort.Operation 0 f.operations 14).rules _ (among_front r (kinds_made (words_of f) sort.«Type» 0 f.types (first_part f sort.«Type»)).rules _ h)
sort_rules f sort.Attribute r h =
    among_back r (kinds_made (words_of f) sort.Operation 0 f.operations 14).rules _ (among_back r (kinds_made (words_of f) sort.«Type» 0 f.types (first_part f sort.«Type»)).rules _ h)

-- the grammar has the rules of each kind
pub kind_has : (f : Formats) (s : Sort) (i : ℕ) (k : Kind) → slice_get (kinds_of f s) i ≡ Some k → HasKind f s i k
kind_has f s i k e =
    let ws = words_of f in
    let found = kind_in ws s (kinds_of f s) 0 i i (first_part f s) k (omega arith) e in
    let m = steps_made ws k.format found.0 in
    let rule : PlainRule = (part_of s, sign ws k.id ∷ Act (begin_of s i) ∷ (m.symbols ++ Act (end_of s) ∷ [])) in
    let there : (r : PlainRule) → IsAmong r (m.rules ++ rule ∷ []) → IsAmong r (rules_of f) = λ r h. made_rule f r (sort_rules f s r (found.1.among r h)) in
    record {
      part = found.0;
      rules = record { among = λ r h. there r (among_front r m.rules (rule ∷ []) h) };
      rule = there rule (among_back rule m.rules (rule ∷ []) (inl refl));
    }

-- ---- rules by their numbers

-- a rule among these has a number
pub rule_number : (rs : List Rule) (x : PlainRule) → IsAmong x (plain_rules rs) → (p : ℕ) × (r : Rule) × (slice_get rs p ≡ Some r) × (plain_rule r ≡ x)
rule_number [] x h = absurd h
rule_number (r ∷ rs) x (inl e) = (0, r, refl, sym e)
rule_number (r ∷ rs) x (inr h) = let f = rule_number rs x h in (suc f.0, f.1, f.2, f.3)
