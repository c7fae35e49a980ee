-- How the names of a text are numbered makes no fault.
use Rattle.std.proofs.Common.{◌≡◌, ℕ, zero, suc, ◌+◌, ◌-◌, ◌<◌, ◌≤◌, ◌==◌, List, [], ◌∷◌, ◌++◌, Some, None, Bool, true, false, if◌then◌else◌, get_or, map, length, take, slice_get, refl, sym, subst, ap, ◌∙◌, ◌⊎◌, inl, inr, arith}
use Rattle.std.specs.Prelude.{slice_index_or}
use Rattle.std.specs.Bool.{MatchBool}
use Rattle.std.specs.Str.{chars}
use Rattle.std.proofs.lemmas.Bool.{cases_lt, eqb-true}
use Rattle.std.proofs.lemmas.List.{append_assoc, length-take-le, get_or_past}
use Rattle.std.proofs.lemmas.List.FromFn.{get_or-map-range_with_len, length-map-range_with_len}
use Rattle.ir_grammar.specs.declared.grammar.Action.{Action}
use Rattle.ir_grammar.specs.declared.grammar.Action.TheVariants as act
use Rattle.ir_grammar.specs.declared.grammar.Symbol.{Symbol}
use Rattle.ir_grammar.specs.declared.grammar.Class.{Class}
use Rattle.ir_grammar.specs.declared.grammar.Event.{Event}
use Rattle.ir_grammar.specs.declared.grammar.Event.TheVariants.{Took, Did}
use Rattle.ir_grammar.specs.declared.grammar.Grammar.{Grammar}
use Rattle.ir_grammar.specs.declared.grammar.Stop.{Stop}
use Rattle.ir_grammar.specs.declared.grammar.Stop.TheVariants as stops
use Rattle.ir_tokens.specs.declared.tokens.TokenKind.{TokenKind}
use Rattle.ir_tokens.specs.declared.tokens.TokenKind.TheVariants.{Digits, Negative, Mark, Text}
use Rattle.ir_tokens.specs.declared.tokens.Token.{Token}
use Rattle.ir_tokens.specs.declared.faults.Fault.{Fault}
use Rattle.ir_scopes.specs.declared.sites.Site.{Site}
use Rattle.ir_scopes.specs.declared.sites.Closing.{Closing}
use Rattle.ir_grammar.specs.Grammar.{accepted, accepts, Derives, Finished, Shifted, Acted, Expanded, IsTextOf}
use Rattle.ir_grammar.specs.Reading.{through, tooks, IsMostly, Reads}
use Rattle.ir_formats.specs.Rules.{words_of, may_be_name, takes, class_of, classes_of, plain_rules, plain_classes}
use Rattle.ir_formats.specs.Words.{text_of, is_quotation, shape_kind, is_spelled, kind_of, AlikeInNumber}
use Rattle.ir_rereading.proofs.verdicts.NameTokens.{quoted_no_name}
use Rattle.ir_scopes.specs.Scopes.{EventPlace, beginning, behind, last_token, defined, labelled, mentioned, label_mentioned, each, definitions, labels, mentions, closings, label_mentions, label_closings, name_of, SiteHasName, IsAgain, IsUnresolvedName}
use Rattle.ir_rereading.specs.Texts.{IsReading, HasFault}
use Rattle.ir_forest.specs.Language.{Language}
use Rattle.ir_scopes.proofs.Apart.{get_append}
use Rattle.ir_grammar.proofs.Derivations.{tooks_append}
use Rattle.ir_formats.proofs.Ordered.{through_front}
use Rattle.ir_rereading.proofs.verdicts.NameSigns.{keeps_name, BehindNames, AreBehindNames, behind_weaker, behind_append, rules_behind, rule_behind}

-- ---- names behind their tokens

-- Each action that keeps a name comes straight behind a token of a kind that names have. At first such a token may have been taken.
abbrev FollowNames : (ℕ → Bool) → List Event → Bool → List ℕ → Type 0
FollowNames names [] fresh ks = Unit {0}
FollowNames names (Took ∷ es) fresh [] = FollowNames names es false []
FollowNames names (Took ∷ es) fresh (k ∷ ks) = FollowNames names es (names k) ks
FollowNames names (Did a ∷ es) fresh ks = MatchBool (keeps_name a) ((fresh ≡ true) × FollowNames names es false ks) (FollowNames names es false ks)

module _ (g : Grammar) (ok : AreBehindNames (plain_rules g.rules.items)) where
  follows : {ss : List Symbol} {ts : List ℕ} {es : List Event} → Derives g ss ts es → (fresh : Bool) → BehindNames fresh ss → FollowNames (accepts g 0) es fresh ts
  follows Finished fresh h = tt
  follows (Shifted {s} {k} {ss} a d) fresh h = follows d (accepts g 0 k) (go (s == 0) refl h)
    where
      go : (b : Bool) → (s == 0) ≡ b → BehindNames b ss → BehindNames (accepts g 0 k) ss
      go true e h = subst (λ (x : Bool). BehindNames x ss) (sym (subst (λ (x : ℕ). accepts g x k ≡ true) (eqb-true s 0 e) a)) h
      go false e h = behind_weaker (accepts g 0 k) ss h
  follows (Acted {a} {ss} {ts} {es} d) fresh h = go (keeps_name a) h (λ e. follows d false e)
    where
      go : (b : Bool) → MatchBool b ((fresh ≡ true) × BehindNames false ss) (BehindNames false ss) → (BehindNames false ss → FollowNames (accepts g 0) es false ts)
          → MatchBool b ((fresh ≡ true) × FollowNames (accepts g 0) es false ts) (FollowNames (accepts g 0) es false ts)
      go true h again = (h.0, again h.1)
      go false h again = again h
  follows (Expanded {n} {ss} p r e q d) fresh h = follows d fresh (behind_append fresh r.body.items ss (behind_weaker fresh r.body.items (rule_behind g.rules.items ok p r e)) h)

module _ (names : ℕ → Bool) where
  -- a front of such events is so
  follows_front : (a b : List Event) (fresh : Bool) (ks : List ℕ) → FollowNames names (a ++ b) fresh ks → FollowNames names a fresh ks
  follows_front [] b fresh ks h = tt
  follows_front (Took ∷ a) b fresh [] h = follows_front a b false [] h
  follows_front (Took ∷ a) b fresh (k ∷ ks) h = follows_front a b (names k) ks h
  follows_front (Did x ∷ a) b fresh ks h = go (keeps_name x) h (λ e. follows_front a b false ks e)
    where
      go : (k : Bool) → MatchBool k ((fresh ≡ true) × FollowNames names (a ++ b) false ks) (FollowNames names (a ++ b) false ks) → (FollowNames names (a ++ b) false ks → FollowNames names a false ks)
          → MatchBool k ((fresh ≡ true) × FollowNames names a false ks) (FollowNames names a false ks)
      go true h again = (h.0, again h.1)
      go false h again = again h

-- ---- the tokens of names

-- Each action that keeps a name or names a value or a block comes behind a token of which this holds; n tokens have been taken before.
abbrev pub AllAt : (ℕ → Type 0) → ℕ → List Event → Type 0
AllAt P n [] = Unit {0}
AllAt P n (Took ∷ es) = AllAt P (n + 1) es
AllAt P n (Did a ∷ es) = (keeps_name a ≡ true → P (n - 1)) × AllAt P n es

-- Of tokens of these kinds, the first with this number, it holds of those of names.
abbrev AreMarked : (ℕ → Bool) → (ℕ → Type 0) → ℕ → List ℕ → Type 0
AreMarked names P n [] = Unit {0}
AreMarked names P n (k ∷ ks) = (names k ≡ true → P n) × AreMarked names P (n + 1) ks

module _ (names : ℕ → Bool) (P : ℕ → Type 0) where
  all_at : (es : List Event) (fresh : Bool) (n : ℕ) (ks more : List ℕ) → tooks es ≤ length ks → (fresh ≡ true → P (n - 1)) → AreMarked names P n ks
      → FollowNames names es fresh (ks ++ more) → AllAt P n es
  all_at [] fresh n ks more le here marked h = tt
  all_at (Took ∷ es) fresh n [] more le here marked h = absurd (omega arith)
  all_at (Took ∷ es) fresh n (k ∷ ks) more le here marked h =
      all_at es (names k) (n + 1) ks more (omega arith) (λ e. let same : n + 1 - 1 ≡ n = omega arith in subst P (sym same) (marked.0 e)) marked.1 h
  all_at (Did a ∷ es) fresh n ks more le here marked h =
      let p = go (keeps_name a) h in
      (λ e. here (p.0 e), all_at es false n ks more le (λ e. let wrong : false ≡ true = e in cc) marked p.1)
    where
      go : (b : Bool) → MatchBool b ((fresh ≡ true) × FollowNames names es false (ks ++ more)) (FollowNames names es false (ks ++ more)) → (b ≡ true → fresh ≡ true) × FollowNames names es false (ks ++ more)
      go true h = (λ _. h.0, h.1)
      go false h = (λ e. let wrong : false ≡ true = e in cc, h)

  marked_front : (ks : List ℕ) (n m : ℕ) → AreMarked names P n ks → AreMarked names P n (take m ks)
  marked_front ks n zero h = tt
  marked_front [] n (suc m) h = tt
  marked_front (k ∷ ks) n (suc m) h = (h.0, marked_front ks (n + 1) m h.1)

-- the token with this number may be a name
abbrev pub SpelledAt : List Token → ℕ → Type 0
SpelledAt ts n = (t : Token) × (slice_get ts n ≡ Some t) × (is_spelled t.kind ≡ true)

module _ (names : ℕ → Bool) (kind : Token → ℕ) (ts : List Token) (known : (t : Token) → names (kind t) ≡ true → is_spelled t.kind ≡ true) where
  all_marked : (us : List Token) (n : ℕ) → ((j m : ℕ) → m ≡ n + j → slice_get ts m ≡ slice_get us j) → AreMarked names (SpelledAt ts) n (map kind us)
  all_marked [] n at = tt
  all_marked (t ∷ us) n at = (λ e. (t, at 0 n (omega arith), known t e), all_marked us (n + 1) (λ j m e. at (suc j) m (omega arith)))

module _ (ws : List (List ℕ)) where
  spelled_kind : (k : TokenKind) (text : List ℕ) (word : ℕ) → may_be_name ws (if is_spelled k then word else shape_kind k text) ≡ true → is_spelled k ≡ true
  spelled_kind Digits text word e = let wrong : false ≡ true = e in cc
  spelled_kind Negative text word e = let wrong : false ≡ true = e in cc
  spelled_kind Mark text word e = let wrong : false ≡ true = e in cc
  spelled_kind Text text word e = absurd (quoted_no_name ws (is_quotation text) e)
  spelled_kind _ text word e = refl

  class_name : (k : ℕ) → slice_index_or (class_of ws 0) k false ≡ true → may_be_name ws k ≡ true
  class_name k h = go (cases_lt k (length ws + 7))
    where
      go : (k < length ws + 7) ⊎ (length ws + 7 ≤ k) → may_be_name ws k ≡ true
      go (inl less) = sym (get_or-map-range_with_len (takes ws 0) 0 (length ws + 7) k k false less (omega arith)) ∙ h
      go (inr more) =
          let past : slice_index_or (class_of ws 0) k false ≡ false = get_or_past (class_of ws 0) k false (omega (arith, length-map-range_with_len (takes ws 0) 0 (length ws + 7))) in
          let wrong : false ≡ true = sym past ∙ h in cc

  accepted_name : (cs : List Class) (k : ℕ) → plain_classes cs ≡ classes_of ws → accepted (slice_get cs 0) k ≡ true → may_be_name ws k ≡ true
  accepted_name [] k e h = cc
  accepted_name (c ∷ cs) k e h =
      let row : c.kinds.items ≡ class_of ws 0 = ap (λ xs. get_or xs 0 []) e ∙ get_or-map-range_with_len (class_of ws) 0 (length ws + 6) 0 0 [] (omega arith) refl in
      class_name k (subst (λ (x : List Bool). slice_index_or x k false ≡ true) row h)

-- ---- what reading gives

through_tooks : (all : List Event) (n : ℕ) → tooks (through all n) ≤ n
through_tooks [] n = omega arith
through_tooks (Took ∷ es) zero = omega arith
through_tooks (Took ∷ es) (suc n) = let h = through_tooks es n in omega arith
through_tooks (Did a ∷ es) n = through_tooks es n

-- The events follow their names, with some tokens behind those that were taken.
abbrev ReadsNames : Grammar → ℕ → List ℕ → List Event → Type 0
ReadsNames g n ks es = (more : List ℕ) × FollowNames (accepts g 0) es false (take n ks ++ more) × (tooks es ≤ length (take n ks))

module _ (g : Grammar) (ok : AreBehindNames (plain_rules g.rules.items)) where
  some_follows : (front : List ℕ) (es : List Event) → (more : List ℕ) × (all : List Event) × IsTextOf g 0 (front ++ more) all × IsMostly (through all (length front)) es
      → (more : List ℕ) × FollowNames (accepts g 0) es false (front ++ more) × (tooks es ≤ length front)
  some_follows front es s =
      let begun = s.3.0 in
      let f = through_front s.1 (length front) in
      let whole : s.1 ≡ es ++ (begun ++ f.0) = f.1 ∙ (ap (λ x. x ++ f.0) s.3.1 ∙ append_assoc es begun f.0) in
      let few : tooks es ≤ length front = omega (arith, through_tooks s.1 (length front), tooks_append es begun, ap tooks s.3.1) in
      (s.0, follows_front (accepts g 0) es (begun ++ f.0) false (front ++ s.0) (subst (λ x. FollowNames (accepts g 0) x false (front ++ s.0)) whole (follows g ok s.2 false tt)), few)

  reads_names : (many n : ℕ) (ks : List ℕ) (stop : Stop) (es : List Event) → Reads g 0 many ks stop n es → ReadsNames g n ks es
  reads_names many n ks stops.Text es r = some_follows (take n ks) es r.1.some
  reads_names many n ks stops.Stuck es r = some_follows (take n ks) es r.1.some
  reads_names many n ks stops.Deep es r =
      let v = r.viable in
      let f = r.each v.0 v.1.0 v.1.1 in
      let long : length (take n ks) ≡ n = length-take-le n ks r.within in
      (v.0, follows_front (accepts g 0) es f.0 false (take n ks ++ v.0) (subst (λ x. FollowNames (accepts g 0) x false (take n ks ++ v.0)) f.1 (follows g ok v.1.1 false tt)), omega (arith, r.took, long))

-- each name of a value or a label comes behind a token that may be a name
pub reading_spelled : (l : Language) (cs : List ℕ) (ts : List Token) (names : List ℕ) (stop : Stop) (n : ℕ) (es : List Event) → IsReading l cs ts names stop n es → AllAt (SpelledAt ts) 0 es
reading_spelled l cs ts names stop n es r =
    let s = r.reads in
    let g = s.0 in
    let ws = words_of l.formats in
    let kind : Token → ℕ = kind_of (map chars ws) cs in
    let read = reads_names g (subst AreBehindNames (sym s.1.rules) (rules_behind l.formats)) 64 n (map kind ts) stop es s.2 in
    let marked = all_marked (accepts g 0) kind ts (λ t e. spelled_kind ws t.kind (text_of cs t) _ (accepted_name ws g.signs.items (kind t) s.1.signs e)) ts 0 (λ j m e. ap (slice_get ts) (omega (arith, e))) in
    all_at (accepts g 0) (SpelledAt ts) es false 0 (take n (map kind ts)) read.0 read.2 (λ e. let wrong : false ≡ true = e in cc) (marked_front (accepts g 0) (SpelledAt ts) (map kind ts) 0 n marked) read.1

-- ---- sites

no_site : {A : Type 0} (s : Site) → None ≡ Some s → A
no_site s h = cc

abbrev pub IsOwn : (EventPlace → Event → List Site) → Type 0
IsOwn f = (at : EventPlace) (a : Action) (i : ℕ) (s : Site) → slice_get (f at (Did a)) i ≡ Some s → (keeps_name a ≡ true) × (s.token ≡ last_token at)

one_site : (x s : Site) (i : ℕ) → slice_get (x ∷ []) i ≡ Some s → x ≡ s
one_site x s zero h = cc
one_site x s (suc i) h = no_site s h

pub defined_own : IsOwn defined
defined_own at act.Result i s h = (refl, ap (λ x. x.token) (sym (one_site _ s i h)))
defined_own at act.Argument i s h = (refl, ap (λ x. x.token) (sym (one_site _ s i h)))
defined_own at _ i s h = no_site s h

pub labelled_own : IsOwn labelled
labelled_own at act.Label i s h = (refl, ap (λ x. x.token) (sym (one_site _ s i h)))
labelled_own at _ i s h = no_site s h

pub mentioned_own : IsOwn mentioned
mentioned_own at act.Operand i s h = (refl, ap (λ x. x.token) (sym (one_site _ s i h)))
mentioned_own at _ i s h = no_site s h

pub label_mentioned_own : IsOwn label_mentioned
label_mentioned_own at act.BeginSuccessor i s h = (refl, ap (λ x. x.token) (sym (one_site _ s i h)))
label_mentioned_own at _ i s h = no_site s h

module _ (isolated : ℕ → Bool) (P : ℕ → Type 0) (f : EventPlace → Event → List Site) (took : (at : EventPlace) → f at Took ≡ []) (own : IsOwn f) where
  pub sites_at : (at : EventPlace) (es : List Event) → AllAt P at.tokens es → (i : ℕ) (s : Site) → slice_get (each isolated f at es) i ≡ Some s → P s.token
  sites_at at [] all i s h = no_site s h
  sites_at at (Took ∷ es) all i s h =
      sites_at (behind isolated at Took) es all i s (subst (λ xs. slice_get (xs ++ each isolated f (behind isolated at Took) es) i ≡ Some s) (took at) h)
  sites_at at (Did a ∷ es) all i s h = elim (get_append (f at (Did a)) (each isolated f (behind isolated at (Did a)) es) i s h) [
    | inl x ↦ (let o = own at a i s x in subst P (sym o.1) (all.0 o.0))
    | inr y ↦ sites_at (behind isolated at (Did a)) es all.1 y.0 s y.2
  ]

-- ---- other numbers

module _ (cs : List ℕ) (ts : List Token) (names numbers : List ℕ) (one : AlikeInNumber cs ts names) (two : AlikeInNumber cs ts numbers) where
  same_name : (i j : ℕ) → SpelledAt ts i → SpelledAt ts j → name_of names i ≡ name_of names j → name_of numbers i ≡ name_of numbers j
  same_name i j (s, at, spelled) (t, there, also) e = (two i j s t at there spelled also).1 ((one i j s t at there spelled also).0 e)

  again_named : (ss : List Site) (f : Fault) → ((i : ℕ) (s : Site) → slice_get ss i ≡ Some s → SpelledAt ts s.token) → IsAgain names ss f → IsAgain numbers ss f
  again_named ss f spelled (i, j, s, less, at, (x, there, (scope, name)), is) =
      (i, j, s, less, at, (x, there, (scope, same_name x.token s.token (spelled i x there) (spelled j s at) name)), is)

module _ (cs : List ℕ) (ts : List Token) (names numbers : List ℕ) (one : AlikeInNumber cs ts names) (two : AlikeInNumber cs ts numbers) where
  lacking_named : (ds ms : List Site) (ends : List Closing) (f : Fault) → ((i : ℕ) (s : Site) → slice_get ds i ≡ Some s → SpelledAt ts s.token) → ((i : ℕ) (s : Site) → slice_get ms i ≡ Some s → SpelledAt ts s.token)
      → IsUnresolvedName names ds ms ends f → IsUnresolvedName numbers ds ms ends f
  lacking_named ds ms ends f known named (i, c, at, (k, m, there, scope, unresolved), is) =
      (i, c, at, (k, m, there, scope, λ j means. unresolved j (back j means)), is)
    where
      back : (j : ℕ) → SiteHasName numbers ds m.scope (name_of numbers m.token) j → SiteHasName names ds m.scope (name_of names m.token) j
      back j (x, found, (within, name)) = (x, found, (within, same_name cs ts numbers names two one x.token m.token (known j x found) (named k m there) name))

-- the faults of a text are the same, whichever numbers its names have
pub renumbered : (l : Language) (cs : List ℕ) (ts : List Token) (names numbers : List ℕ) (stop : Stop) (n : ℕ) (es : List Event) → IsReading l cs ts names stop n es → AlikeInNumber cs ts numbers
    → (f : Fault) → HasFault l cs ts names stop n es f → HasFault l cs ts numbers stop n es f
renumbered l cs ts names numbers stop n es r two f h = go h
  where
    all : AllAt (SpelledAt ts) 0 es
    all = reading_spelled l cs ts names stop n es r

    known : (i : ℕ) (s : Site) → slice_get (definitions l.isolated es) i ≡ Some s → SpelledAt ts s.token
    known = sites_at l.isolated (SpelledAt ts) defined (λ at. refl) defined_own beginning es all

    named : (i : ℕ) (s : Site) → slice_get (mentions l.isolated es) i ≡ Some s → SpelledAt ts s.token
    named = sites_at l.isolated (SpelledAt ts) mentioned (λ at. refl) mentioned_own beginning es all

    marked : (i : ℕ) (s : Site) → slice_get (labels l.isolated es) i ≡ Some s → SpelledAt ts s.token
    marked = sites_at l.isolated (SpelledAt ts) labelled (λ at. refl) labelled_own beginning es all

    meant : (i : ℕ) (s : Site) → slice_get (label_mentions l.isolated es) i ≡ Some s → SpelledAt ts s.token
    meant = sites_at l.isolated (SpelledAt ts) label_mentioned (λ at. refl) label_mentioned_own beginning es all

    go : HasFault l cs ts names stop n es f → HasFault l cs ts numbers stop n es f
    go (inl x) = inl x
    go (inr (inl x)) = inr (inl x)
    go (inr (inr (inl x))) = inr (inr (inl x))
    go (inr (inr (inr (inl x)))) = inr (inr (inr (inl x)))
    go (inr (inr (inr (inr (inl (inl x)))))) = inr (inr (inr (inr (inl (inl (again_named cs ts names numbers r.alike two (definitions l.isolated es) f known x))))))
    go (inr (inr (inr (inr (inl (inr x)))))) = inr (inr (inr (inr (inl (inr (lacking_named cs ts names numbers r.alike two (definitions l.isolated es) (mentions l.isolated es) (closings l.isolated es) f known named x))))))
    go (inr (inr (inr (inr (inr (inl (inl x))))))) = inr (inr (inr (inr (inr (inl (inl (again_named cs ts names numbers r.alike two (labels l.isolated es) f marked x)))))))
    go (inr (inr (inr (inr (inr (inl (inr x))))))) =
        inr (inr (inr (inr (inr (inl (inr (lacking_named cs ts names numbers r.alike two (labels l.isolated es) (label_mentions l.isolated es) (label_closings l.isolated es) f marked meant x)))))))
    go (inr (inr (inr (inr (inr (inr x)))))) = inr (inr (inr (inr (inr (inr x)))))
