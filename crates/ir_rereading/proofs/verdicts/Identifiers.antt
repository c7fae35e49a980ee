-- The names that reading keeps are identifiers.
use Rattle.std.proofs.Common.{◌≡◌, ℕ, zero, suc, ◌+◌, ◌-◌, ◌≤◌, ◌==◌, List, [], ◌∷◌, ◌++◌, Option, Some, Bool, true, false, map, length, take, slice_get, refl, sym, subst, ap, ◌∙◌, ◌⊎◌, inl, inr, arith}
use Rattle.std.specs.Bool.{MatchBool}
use Rattle.std.specs.Option.{option_map_or}
use Rattle.std.specs.Str.{chars}
use Rattle.std.proofs.lemmas.Bool.{eqb-true}
use Rattle.std.proofs.lemmas.List.{append_assoc, length-take-le}
use Rattle.ir_names.specs.Text.{is_identifier}
use Rattle.ir_grammar.specs.declared.grammar.Action.{Action}
use Rattle.ir_grammar.specs.declared.grammar.Action.TheVariants as act
use Rattle.ir_grammar.specs.declared.grammar.Symbol.{Symbol}
use Rattle.ir_grammar.specs.declared.grammar.Event.{Event}
use Rattle.ir_grammar.specs.declared.grammar.Event.TheVariants.{Took, Did}
use Rattle.ir_grammar.specs.declared.grammar.Grammar.{Grammar}
use Rattle.ir_grammar.specs.declared.grammar.Stop.{Stop}
use Rattle.ir_grammar.specs.declared.grammar.Stop.TheVariants as stops
use Rattle.ir_tokens.specs.declared.tokens.TokenKind.{TokenKind}
use Rattle.ir_tokens.specs.declared.tokens.TokenKind.TheVariants.{Bad}
use Rattle.ir_tokens.specs.declared.tokens.Token.{Token}
use Rattle.ir_grammar.specs.Grammar.{accepts, Derives, Finished, Shifted, Acted, Expanded, IsTextOf}
use Rattle.ir_grammar.specs.Reading.{through, tooks, IsMostly, Reads}
use Rattle.ir_formats.specs.Rules.{words_of, plain_rules}
use Rattle.ir_tokens.specs.Tokens.{IsToken, LastIfBad, ReadsAs}
use Rattle.ir_formats.specs.Words.{text_of, kind_of, token_text}
use Rattle.ir_forest.specs.Identifiers.{IsSpelt, AreSpelt}
use Rattle.ir_rereading.specs.Texts.{IsReading}
use Rattle.ir_forest.specs.Language.{Language}
use Rattle.ir_grammar.proofs.Derivations.{tooks_append}
use Rattle.ir_formats.proofs.Ordered.{through_front}
use Rattle.ir_rereading.proofs.verdicts.NameSigns.{keeps_name, BehindNames, AreBehindNames, behind_weaker, behind_append, rules_behind, rule_behind}
use Rattle.ir_print.specs.declared.format.LeafSort.TheVariants as leaves
use Rattle.ir_rereading.proofs.verdicts.NameTokens.{name_token, accepted_name}

-- ---- names behind their tokens

-- Each action that keeps a name comes straight behind a token of a kind that names have. At first such a token may have been taken.
abbrev FollowNames : (ℕ → Bool) → List Event → Bool → List ℕ → Type 0
FollowNames names [] fresh ks = Unit {0}
FollowNames names (Took ∷ es) fresh [] = FollowNames names es false []
FollowNames names (Took ∷ es) fresh (k ∷ ks) = FollowNames names es (names k) ks
FollowNames names (Did a ∷ es) fresh ks = MatchBool (keeps_name a) ((fresh ≡ true) × FollowNames names es false ks) (FollowNames names es false ks)

module _ (g : Grammar) (ok : AreBehindNames (plain_rules g.rules.items)) where
  follows : {ss : List Symbol} {ts : List ℕ} {es : List Event} → Derives g ss ts es → (fresh : Bool) → BehindNames fresh ss → FollowNames (accepts g 0) es fresh ts
  follows Finished fresh h = tt
  follows (Shifted {s} {k} {ss} a d) fresh h = follows d (accepts g 0 k) (go (s == 0) refl h)
    where
      go : (b : Bool) → (s == 0) ≡ b → BehindNames b ss → BehindNames (accepts g 0 k) ss
      go true e h = subst (λ (x : Bool). BehindNames x ss) (sym (subst (λ (x : ℕ). accepts g x k ≡ true) (eqb-true s 0 e) a)) h
      go false e h = behind_weaker (accepts g 0 k) ss h
  follows (Acted {a} {ss} {ts} {es} d) fresh h = go (keeps_name a) h (λ e. follows d false e)
    where
      go : (b : Bool) → MatchBool b ((fresh ≡ true) × BehindNames false ss) (BehindNames false ss) → (BehindNames false ss → FollowNames (accepts g 0) es false ts)
          → MatchBool b ((fresh ≡ true) × FollowNames (accepts g 0) es false ts) (FollowNames (accepts g 0) es false ts)
      go true h again = (h.0, again h.1)
      go false h again = again h
  follows (Expanded {n} {ss} p r e q d) fresh h = follows d fresh (behind_append fresh r.body.items ss (behind_weaker fresh r.body.items (rule_behind g.rules.items ok p r e)) h)

module _ (names : ℕ → Bool) where
  -- a front of such events is so
  follows_front : (a b : List Event) (fresh : Bool) (ks : List ℕ) → FollowNames names (a ++ b) fresh ks → FollowNames names a fresh ks
  follows_front [] b fresh ks h = tt
  follows_front (Took ∷ a) b fresh [] h = follows_front a b false [] h
  follows_front (Took ∷ a) b fresh (k ∷ ks) h = follows_front a b (names k) ks h
  follows_front (Did x ∷ a) b fresh ks h = go (keeps_name x) h (λ e. follows_front a b false ks e)
    where
      go : (k : Bool) → MatchBool k ((fresh ≡ true) × FollowNames names (a ++ b) false ks) (FollowNames names (a ++ b) false ks) → (FollowNames names (a ++ b) false ks → FollowNames names a false ks)
          → MatchBool k ((fresh ≡ true) × FollowNames names a false ks) (FollowNames names a false ks)
      go true h again = (h.0, again h.1)
      go false h again = again h

-- ---- names as they are spelled

-- Of tokens of these kinds, the first with this number, those of names are identifiers.
abbrev AreNamed : (ℕ → Bool) → (ℕ → List ℕ) → ℕ → List ℕ → Type 0
AreNamed names text n [] = Unit {0}
AreNamed names text n (k ∷ ks) = (names k ≡ true → is_identifier (text n) ≡ true) × AreNamed names text (n + 1) ks

spelt_behind : (a : Action) (cs : List ℕ) → (keeps_name a ≡ true → is_identifier cs ≡ true) → IsSpelt a cs
spelt_behind (act.Leaf leaves.Name) cs h = h refl
spelt_behind act.Label cs h = h refl
spelt_behind _ cs h = tt

module _ (names : ℕ → Bool) (text : ℕ → List ℕ) where
  are_spelt : (es : List Event) (fresh : Bool) (n : ℕ) (ks more : List ℕ) → tooks es ≤ length ks → (fresh ≡ true → is_identifier (text (n - 1)) ≡ true) → AreNamed names text n ks
      → FollowNames names es fresh (ks ++ more) → AreSpelt text n es
  are_spelt [] fresh n ks more le here named h = tt
  are_spelt (Took ∷ es) fresh n [] more le here named h = absurd (omega arith)
  are_spelt (Took ∷ es) fresh n (k ∷ ks) more le here named h =
      are_spelt es (names k) (n + 1) ks more (omega arith) (λ e. let same : n + 1 - 1 ≡ n = omega arith in rw same (named.0 e)) named.1 h
  are_spelt (Did a ∷ es) fresh n ks more le here named h =
      let p = go (keeps_name a) h in
      (spelt_behind a (text (n - 1)) (λ e. here (p.0 e)), are_spelt es false n ks more le (λ e. let wrong : false ≡ true = e in cc) named p.1)
    where
      go : (b : Bool) → MatchBool b ((fresh ≡ true) × FollowNames names es false (ks ++ more)) (FollowNames names es false (ks ++ more)) → (b ≡ true → fresh ≡ true) × FollowNames names es false (ks ++ more)
      go true h = (λ _. h.0, h.1)
      go false h = (λ e. let wrong : false ≡ true = e in cc, h)

  named_front : (ks : List ℕ) (n m : ℕ) → AreNamed names text n ks → AreNamed names text n (take m ks)
  named_front ks n zero h = tt
  named_front [] n (suc m) h = tt
  named_front (k ∷ ks) n (suc m) h = (h.0, named_front ks (n + 1) m h.1)

-- ---- the tokens of a text

reads_after : (k : TokenKind) (cs : List ℕ) (i : ℕ) (ts : List Token) → LastIfBad k (ts ≡ []) (ReadsAs cs i ts) → (ts ≡ []) ⊎ ReadsAs cs i ts
reads_after Bad cs i ts h = inl h
reads_after _ cs i ts h = inr h

module _ (names : ℕ → Bool) (kind : Token → ℕ) (cs : List ℕ) (all : List Token) (known : (t : Token) → IsToken cs t → names (kind t) ≡ true → is_identifier (text_of cs t) ≡ true) where
  text_at : (t : Token) (o : Option Token) → o ≡ Some t → option_map_or (text_of cs) o [] ≡ text_of cs t
  text_at t o e = ap (λ (x : Option Token). option_map_or (text_of cs) x []) e

  tokens_named : (ts : List Token) (i n : ℕ) → ReadsAs cs i ts → ((j m : ℕ) → m ≡ n + j → slice_get all m ≡ slice_get ts j) → AreNamed names (token_text cs all) n (map kind ts)
  tokens_named [] i n r at = tt
  tokens_named (t ∷ ts) i n r at = (
    λ e. subst (λ (x : List ℕ). is_identifier x ≡ true) (sym (text_at t (slice_get all n) (at 0 n (omega arith)))) (known t r.2 e),
    go (reads_after t.kind cs t.end ts r.3) (λ q. tokens_named ts t.end (n + 1) q (λ j m e. at (suc j) m (omega arith))),
  )
    where
      go : (ts ≡ []) ⊎ ReadsAs cs t.end ts → (ReadsAs cs t.end ts → AreNamed names (token_text cs all) (n + 1) (map kind ts)) → AreNamed names (token_text cs all) (n + 1) (map kind ts)
      go (inl e) again = subst (λ us. AreNamed names (token_text cs all) (n + 1) (map kind us)) (sym e) tt
      go (inr q) again = again q

-- ---- what reading gives

pub through_tooks : (all : List Event) (n : ℕ) → tooks (through all n) ≤ n
through_tooks [] n = omega arith
through_tooks (Took ∷ es) zero = omega arith
through_tooks (Took ∷ es) (suc n) = let h = through_tooks es n in omega arith
through_tooks (Did a ∷ es) n = through_tooks es n

-- The events follow their names, with some tokens behind those that were taken.
abbrev ReadsNames : Grammar → ℕ → List ℕ → List Event → Type 0
ReadsNames g n ks es = (more : List ℕ) × FollowNames (accepts g 0) es false (take n ks ++ more) × (tooks es ≤ length (take n ks))

module _ (g : Grammar) (ok : AreBehindNames (plain_rules g.rules.items)) where
  some_follows : (front : List ℕ) (es : List Event) → (more : List ℕ) × (all : List Event) × IsTextOf g 0 (front ++ more) all × IsMostly (through all (length front)) es
      → (more : List ℕ) × FollowNames (accepts g 0) es false (front ++ more) × (tooks es ≤ length front)
  some_follows front es s =
      let begun = s.3.0 in
      let f = through_front s.1 (length front) in
      let whole : s.1 ≡ es ++ (begun ++ f.0) = f.1 ∙ (ap (λ x. x ++ f.0) s.3.1 ∙ append_assoc es begun f.0) in
      let few : tooks es ≤ length front = omega (arith, through_tooks s.1 (length front), tooks_append es begun, ap tooks s.3.1) in
      (s.0, follows_front (accepts g 0) es (begun ++ f.0) false (front ++ s.0) (subst (λ x. FollowNames (accepts g 0) x false (front ++ s.0)) whole (follows g ok s.2 false tt)), few)

  reads_names : (many n : ℕ) (ks : List ℕ) (stop : Stop) (es : List Event) → Reads g 0 many ks stop n es → ReadsNames g n ks es
  reads_names many n ks stops.Text es r = some_follows (take n ks) es r.1.some
  reads_names many n ks stops.Stuck es r = some_follows (take n ks) es r.1.some
  reads_names many n ks stops.Deep es r =
      let v = r.viable in
      let f = r.each v.0 v.1.0 v.1.1 in
      let long : length (take n ks) ≡ n = length-take-le n ks r.within in
      (v.0, follows_front (accepts g 0) es f.0 false (take n ks ++ v.0) (subst (λ x. FollowNames (accepts g 0) x false (take n ks ++ v.0)) f.1 (follows g ok v.1.1 false tt)), omega (arith, r.took, long))

-- Each name and each label that reading keeps is an identifier.
pub reading_spelt : (l : Language) (cs : List ℕ) (ts : List Token) (names : List ℕ) (stop : Stop) (n : ℕ) (es : List Event) → IsReading l cs ts names stop n es → AreSpelt (token_text cs ts) 0 es
reading_spelt l cs ts names stop n es r =
    let s = r.reads in
    let g = s.0 in
    let ws = words_of l.formats in
    let kind : Token → ℕ = kind_of (map chars ws) cs in
    let read = reads_names g (subst AreBehindNames (sym s.1.rules) (rules_behind l.formats)) 64 n (map kind ts) stop es s.2 in
    let named = tokens_named (accepts g 0) kind cs ts (λ t token e. name_token ws cs t token (accepted_name ws g.signs.items (kind t) s.1.signs e)) ts 0 0 r.tokens (λ j m e. ap (slice_get ts) (omega (arith, e))) in
    are_spelt (accepts g 0) (token_text cs ts) es false 0 (take n (map kind ts)) read.0 read.2 (λ e. let wrong : false ≡ true = e in cc) (named_front (accepts g 0) (token_text cs ts) (map kind ts) 0 n named) read.1
