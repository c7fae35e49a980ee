-- Scopes in which a name is mentioned that has no definition there.
use Rattle.std.proofs.Common.{◌≡◌, ℕ, ◌<◌, suc, zero, Bool, true, false, cond, List, [], ◌∷◌, ◌++◌, length, Option, Some, None, slice_get, refl, sym, subst, ap, ◌∙◌, ◌⊎◌, inl, inr}
use Rattle.std.specs.Bool.{MatchBool}
use Rattle.std.proofs.lemmas.Bool.{cases_eq}
use Rattle.std.proofs.lemmas.Cmp.{ranked, nat_cmp_total, tied_itself}
use Rattle.std.specs.BTreeMap.{is_at}
use Rattle.std.specs.BTreeSet as bag
use Rattle.std.specs.BTreeSet.{BTreeSet}
use Rattle.std.specs.List.{list_any}
use Rattle.std.specs.List.Sorted.{IsPermutation}
use Rattle.std.specs.Ordering.{nat_cmp, is_eq, MatchOrdering}
use Rattle.std.specs.declared.cmp.Ordering.{Ordering}
use Rattle.std.specs.declared.cmp.Ordering.TheVariants.{Less, Equal, Greater}
use Rattle.ir_tokens.specs.declared.faults.Fault.{Fault}
use Rattle.ir_scopes.specs.declared.sites.Site.{Site}
use Rattle.ir_scopes.specs.declared.sites.Closing.{Closing}
use Rattle.ir_tokens.specs.Faults.{IsFirstOf, IsNamed}
use Rattle.ir_scopes.specs.Scopes.{name_of, SiteHasName, Means, IsUnresolved, LacksName, IsUnresolvedName, AreLacking, EndsAmong, fault_unresolved}
use Rattle.ir_tokens.proofs.FirstFault.{first_more, named_along}
use Rattle.ir_scopes.proofs.ListEnds.{get_more, get_last, get_cases}
use Rattle.ir_scopes.proofs.ScopeOrders.{moved_to, moved_from}

-- ---- whether a mention has a definition

module _ (names : List ℕ) (scope name : ℕ) where
  is_named : (ds : List Site) → ((j : ℕ) × SiteHasName names ds scope name j) ⊎ ((j : ℕ) → SiteHasName names ds scope name j → ⊥)
  is_named [] = inr (λ j h. let wrong : None ≡ Some h.0 = h.1 in cc)
  is_named (d ∷ ds) = go (cases_eq d.scope scope) (cases_eq (name_of names d.token) name) (is_named ds)
    where
      later : (((d.scope ≡ scope) × (name_of names d.token ≡ name)) → ⊥) → ((j : ℕ) × SiteHasName names ds scope name j) ⊎ ((j : ℕ) → SiteHasName names ds scope name j → ⊥)
          → ((j : ℕ) × SiteHasName names (d ∷ ds) scope name j) ⊎ ((j : ℕ) → SiteHasName names (d ∷ ds) scope name j → ⊥)
      later never (inl h) = inl (suc h.0, h.1)
      later never (inr none) = inr none_here
        where
          none_here : (j : ℕ) → SiteHasName names (d ∷ ds) scope name j → ⊥
          none_here zero h = let same : Some d ≡ Some h.0 = h.1 in let is : d ≡ h.0 = cc in never (subst (λ t. (t.scope ≡ scope) × (name_of names t.token ≡ name)) (sym is) h.2)
          none_here (suc j) h = none j h

      go : (d.scope ≡ scope) ⊎ (d.scope ≡ scope → ⊥) → (name_of names d.token ≡ name) ⊎ (name_of names d.token ≡ name → ⊥)
          → ((j : ℕ) × SiteHasName names ds scope name j) ⊎ ((j : ℕ) → SiteHasName names ds scope name j → ⊥)
          → ((j : ℕ) × SiteHasName names (d ∷ ds) scope name j) ⊎ ((j : ℕ) → SiteHasName names (d ∷ ds) scope name j → ⊥)
      go (inl a) (inl b) rest = inl (zero, (d, refl, (a, b)))
      go (inr a) b rest = later (λ h. a h.0) rest
      go (inl a) (inr b) rest = later (λ h. b h.1) rest

module _ (names : List ℕ) (ds : List Site) where
  -- ---- one mention more

  module _ (ms : List Site) (x : Site) where
    lacks_more : (scope : ℕ) → LacksName names ds ms scope → LacksName names ds (ms ++ x ∷ []) scope
    lacks_more scope h = (h.0, h.1, get_more ms (x ∷ []) h.0 h.1 h.2, h.3, h.4)

    lacks_here : (scope : ℕ) → x.scope ≡ scope → IsUnresolved names ds x → LacksName names ds (ms ++ x ∷ []) scope
    lacks_here scope e none = (length ms, x, get_last ms x, e, none)

    lacks_cases : (scope : ℕ) → LacksName names ds (ms ++ x ∷ []) scope → LacksName names ds ms scope ⊎ ((x.scope ≡ scope) × IsUnresolved names ds x)
    lacks_cases scope h = elim (get_cases ms x h.0 h.1 h.2) [
      | inl e ↦ inl (h.0, h.1, e, h.3, h.4)
      | inr e ↦ inr (subst (λ t. (t.scope ≡ scope) × IsUnresolved names ds t) (sym e.1) (h.3, h.4))
    ]

    pub lacking_kept : (i : ℕ) (s : BTreeSet ℕ) → Means names ds x i → AreLacking names ds ms s → AreLacking names ds (ms ++ x ∷ []) s
    lacking_kept i s means h scope = go (bag.contains nat_cmp s scope) (h scope)
      where
        go : (b : Bool) → MatchBool b (LacksName names ds ms scope) (LacksName names ds ms scope → ⊥) → MatchBool b (LacksName names ds (ms ++ x ∷ []) scope) (LacksName names ds (ms ++ x ∷ []) scope → ⊥)
        go true y = lacks_more scope y
        go false y = λ z. elim (lacks_cases scope z) [ inl u ↦ y u | inr u ↦ u.1 i means ]

    found : (k q : ℕ) → is_at (nat_cmp k) q ≡ true → k ≡ q
    found k q h = go (nat_cmp k q) (ranked k q (nat_cmp k q) refl) h
      where
        go : (o : Ordering) → MatchOrdering o (k < q) (k ≡ q) (q < k) → is_eq o ≡ true → k ≡ q
        go Less m e = absurd (let wrong : false ≡ true = e in cc)
        go Equal m e = m
        go Greater m e = absurd (let wrong : false ≡ true = e in cc)

    finds : (k q : ℕ) → k ≡ q → is_at (nat_cmp k) q ≡ true
    finds k q e = subst (λ (z : ℕ). is_at (nat_cmp k) z ≡ true) e (ap is_eq (tied_itself nat_cmp_total k))

    pub lacking_added : (s t : BTreeSet ℕ) → IsUnresolved names ds x → bag.Updates nat_cmp s t x.scope true → AreLacking names ds ms s → AreLacking names ds (ms ++ x ∷ []) t
    lacking_added s t none u h scope = go (is_at (nat_cmp x.scope) scope) refl (bag.contains nat_cmp s scope) (bag.contains nat_cmp t scope) (u.0 scope) (h scope)
      where
        go : (same : Bool) → is_at (nat_cmp x.scope) scope ≡ same → (b c : Bool) → c ≡ cond same true b → MatchBool b (LacksName names ds ms scope) (LacksName names ds ms scope → ⊥)
            → MatchBool c (LacksName names ds (ms ++ x ∷ []) scope) (LacksName names ds (ms ++ x ∷ []) scope → ⊥)
        go true e b true q y = lacks_here scope (found x.scope scope e) none
        go true e b false q y = absurd cc
        go false e true true q y = lacks_more scope y
        go false e true false q y = absurd cc
        go false e false true q y = absurd cc
        go false e false false q y = λ z. elim (lacks_cases scope z) [
          | inl v ↦ y v
          | inr v ↦ absurd (let wrong : true ≡ false = sym (finds x.scope scope v.0) ∙ e in cc)
        ]

  pub lacking_empty : (s : BTreeSet ℕ) → s.keys ≡ [] → AreLacking names ds [] s
  lacking_empty s e scope =
      let Goal : List ℕ → Type 0 = λ ks. MatchBool (list_any (is_at (nat_cmp scope)) ks) (LacksName names ds [] scope) (LacksName names ds [] scope → ⊥) in
      subst Goal (sym e) (λ h. let wrong : None ≡ Some h.1 = h.2 in cc)

  -- the same mentions in another order
  pub lacking_moved : (ms ns : List Site) → IsPermutation ms ns → (s : BTreeSet ℕ) → AreLacking names ds ns s → AreLacking names ds ms s
  lacking_moved ms ns p s h scope = go (bag.contains nat_cmp s scope) (h scope)
    where
      to : LacksName names ds ms scope → LacksName names ds ns scope
      to l = let at = moved_to ms ns p l.0 l.1 l.2 in (at.0, l.1, at.1, l.3, l.4)

      from : LacksName names ds ns scope → LacksName names ds ms scope
      from l = let at = moved_from ms ns p l.0 l.1 l.2 in (at.0, l.1, at.1, l.3, l.4)

      go : (b : Bool) → MatchBool b (LacksName names ds ns scope) (LacksName names ds ns scope → ⊥) → MatchBool b (LacksName names ds ms scope) (LacksName names ds ms scope → ⊥)
      go true y = from y
      go false y = λ l. y (to l)

-- ---- one end more

module _ (set : BTreeSet ℕ) (cs : List Closing) (x : Closing) where
  ends_more : (f : Fault) → EndsAmong set cs f → EndsAmong set (cs ++ x ∷ []) f
  ends_more f h = (h.0, h.1, get_more cs (x ∷ []) h.0 h.1 h.2, h.3, h.4)

  ends_cases : (f : Fault) → EndsAmong set (cs ++ x ∷ []) f → EndsAmong set cs f ⊎ ((bag.contains nat_cmp set x.scope ≡ true) × (f ≡ fault_unresolved x))
  ends_cases f h = elim (get_cases cs x h.0 h.1 h.2) [
    | inl e ↦ inl (h.0, h.1, e, h.3, h.4)
    | inr e ↦ inr (subst (λ c. (bag.contains nat_cmp set c.scope ≡ true) × (f ≡ fault_unresolved c)) (sym e.1) (h.3, h.4))
  ]

  pub ends_among : bag.contains nat_cmp set x.scope ≡ true → (a r : Option Fault) → IsFirstOf a (Some (fault_unresolved x)) r → IsNamed (EndsAmong set cs) a → IsNamed (EndsAmong set (cs ++ x ∷ [])) r
  ends_among among a r first h =
      first_more (EndsAmong set cs) (EndsAmong set (cs ++ x ∷ [])) (fault_unresolved x) a r
      (λ f y. elim (ends_cases f y) [ inl z ↦ inl z | inr z ↦ inr z.1 ]) ends_more (length cs, x, get_last cs x, among, refl) h first

  pub ends_apart : bag.contains nat_cmp set x.scope ≡ false → (a : Option Fault) → IsNamed (EndsAmong set cs) a → IsNamed (EndsAmong set (cs ++ x ∷ [])) a
  ends_apart apart a h =
      named_along (EndsAmong set cs) (EndsAmong set (cs ++ x ∷ [])) a ends_more
      (λ f y. elim (ends_cases f y) [ inl z ↦ z | inr z ↦ absurd (let wrong : true ≡ false = sym z.0 ∙ apart in cc) ]) h

pub ends_empty : (set : BTreeSet ℕ) → IsNamed (EndsAmong set []) None
ends_empty set f h = let wrong : None ≡ Some h.1 = h.2 in cc

-- ---- all mentions

module _ (names : List ℕ) (ds ms : List Site) where
  module _ (set : BTreeSet ℕ) (lacking : AreLacking names ds ms set) where
    in_set : (scope : ℕ) (b : Bool) → bag.contains nat_cmp set scope ≡ b → MatchBool b (LacksName names ds ms scope) (LacksName names ds ms scope → ⊥)
    in_set scope b e = let Goal : Bool → Type 0 = λ z. MatchBool z (LacksName names ds ms scope) (LacksName names ds ms scope → ⊥) in subst Goal e (lacking scope)

    in_set_so : (scope : ℕ) (b : Bool) → bag.contains nat_cmp set scope ≡ b → LacksName names ds ms scope → bag.contains nat_cmp set scope ≡ true
    in_set_so scope true e h = e
    in_set_so scope false e h = absurd (in_set scope false e h)

    pub is_lacking : (cs : List Closing) (o : Option Fault) → IsNamed (EndsAmong set cs) o → IsNamed (IsUnresolvedName names ds ms cs) o
    is_lacking cs o h = named_along (EndsAmong set cs) (IsUnresolvedName names ds ms cs) o
        (λ f y. (y.0, y.1, y.2, in_set y.1.scope true y.3, y.4))
        (λ f y. (y.0, y.1, y.2, in_set_so y.1.scope (bag.contains nat_cmp set y.1.scope) refl y.3, y.4)) h

  -- where nothing is lacking in a scope, what is mentioned there means a definition
  pub is_meant : (cs : List Closing) → IsNamed (IsUnresolvedName names ds ms cs) None → (i k : ℕ) (m : Site) (c : Closing) → slice_get ms i ≡ Some m → slice_get cs k ≡ Some c → c.scope ≡ m.scope → (j : ℕ) × Means names ds m j
  is_meant cs none i k m c at ends same = elim (is_named names m.scope (name_of names m.token) ds) [
    | inl h ↦ h
    | inr never ↦ absurd (none (fault_unresolved c) (k, c, ends, (i, m, at, sym same, never), refl))
  ]
