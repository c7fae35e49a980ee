-- Walks over sites, one scope after the other.
use Rattle.std.proofs.Common.{◌≡◌, ℕ, ◌+◌, ◌<◌, ◌≤◌, Bool, true, false, cond, List, length, Option, Some, None, MatchOption, nat_eq, slice_get, get_or, set, refl, sym, subst, ap, ◌∙◌, arith, Bor, ◌⊎◌, inl, inr}
use Rattle.std.specs.List.{HoldsAt}
use Rattle.std.specs.Option.{option_copied}
use Rattle.std.proofs.lemmas.Bool.{cases_order, cases_lt, cases_eq, eq-eqb}
use Rattle.std.proofs.lemmas.Bool.Decides.{nat_tests}
use Rattle.std.proofs.lemmas.List.{get_or-set_same, get_or-set_other, length-set}
use Rattle.std.proofs.lemmas.Option.{slice_get_within, slice_get_past, slice_get-get_or, get_or_from_slice_get}
use Rattle.ir_tokens.specs.declared.faults.Fault.{Fault}
use Rattle.ir_tokens.specs.Faults.{IsFirstOf, IsNamed}
use Rattle.ir_tokens.proofs.FirstFault.{first_more, named_along}
use Rattle.ir_scopes.specs.declared.sites.Site.{Site}
use Rattle.ir_scopes.specs.Scopes.{name_of, SiteHasName, IsAgain, fault_again}
use Rattle.ir_scopes.specs.Orders.{IsEarlierSite, IsScopeOrder, found_token, token_at, name_at, AreNamedAlike, IsNameAt, IsLatest, IsAgainBefore, IsWalkAt, number_in, number_there, again_at, AreWithin, AreBehind}

-- two that stand at one place are one
one_there : {X : Type 0} (xs : List X) (i k : ℕ) (x y : X) → i ≡ k → slice_get xs i ≡ Some x → slice_get xs k ≡ Some y → x ≡ y
one_there xs i k x y e a b = let both : Some x ≡ Some y = sym a ∙ (ap (slice_get xs) e ∙ b) in cc

-- what `get` lends, copied
pub copied_there : {X : Type 0} (xs : List X) (i : ℕ) (x : X) (o : Option (Bor X)) (r : Option X) → MatchOption o (length xs ≤ i) (λ b. (i < length xs) × HoldsAt (λ y. b.now ≡ y) xs i)
    → r ≡ option_copied o → r ≡ Some x → slice_get xs i ≡ Some x
copied_there xs i x None r m e is = let wrong : None ≡ Some x = sym e ∙ is in cc
copied_there xs i x (Some b) r m e is = slice_get-get_or xs i b.now m.0 ∙ (ap Some (sym (m.1 b.now)) ∙ (sym e ∙ is))

-- a list that has something at a place
none_there : {X : Type 0} {A : Type 0} (xs : List X) (i : ℕ) (x : X) → length xs ≤ i → slice_get xs i ≡ Some x → A
none_there xs i x past at = let lt = slice_get_within xs i x at in absurd (omega arith)

not_before : (x y : ℕ × ℕ) → IsEarlierSite x y → y.0 < x.0 → ⊥
not_before x y (inl a) b = omega arith
not_before x y (inr a) b = omega (arith, a.0)

not_lower : (x y : ℕ × ℕ) → IsEarlierSite x y → x.0 ≤ y.0
not_lower x y (inl a) = omega arith
not_lower x y (inr a) = omega (arith, a.0)

-- ---- how far a walk has come

module _ (order : List (ℕ × ℕ)) (n last : ℕ) (x : ℕ × ℕ) (here : slice_get order n ≡ Some x) where
  pub within_more : x.0 ≤ last → AreWithin order n last → AreWithin order (n + 1) last
  within_more le h i y lt at = go (cases_eq i n)
    where
      go : (i ≡ n) ⊎ (i ≡ n → ⊥) → y.0 ≤ last
      go (inl e) = subst (λ (z : ℕ × ℕ). z.0 ≤ last) (one_there order n i x y (sym e) here at) le
      go (inr ne) = h i y (omega arith) at

  pub behind_here : (ss : List Site) → IsScopeOrder ss order → last < x.0 → AreBehind order n last
  behind_here ss is lt i y le at = go (cases_eq i n)
    where
      go : (i ≡ n) ⊎ (i ≡ n → ⊥) → last < y.0
      go (inl e) = subst (λ (z : ℕ × ℕ). last < z.0) (one_there order n i x y (sym e) here at) lt
      go (inr ne) = let up = not_lower x y (is.ascends n i x y (omega arith) here at) in omega arith

pub behind_end : (order : List (ℕ × ℕ)) (n last : ℕ) → length order ≤ n → AreBehind order n last
behind_end order n last past i x le at = none_there order i x (omega arith) at

-- ---- what the table says

module _ (names : List ℕ) (ss : List Site) (order : List (ℕ × ℕ)) (passed : ℕ) (latest : List ℕ) (again : Option Fault) (walk : IsWalkAt names ss order passed latest again) where
  token_is : (j : ℕ) (s : Site) → slice_get ss j ≡ Some s → token_at ss j ≡ s.token
  token_is j s at = ap found_token at

  name_is : (j : ℕ) (s : Site) → slice_get ss j ≡ Some s → name_at names ss j ≡ name_of names s.token
  name_is j s at = ap (name_of names) (token_is j s at)

  -- the name of each of the order has a place
  has_place : (i : ℕ) (x : ℕ × ℕ) → slice_get order i ≡ Some x → name_at names ss x.1 < length latest
  has_place i x at =
      let s = walk.ordered.sites i x at in
      subst (λ (n : ℕ). n < length latest) (sym (name_is x.1 s.0 s.1)) (walk.placed x.1 s.0 s.1)

  module _ (scope name : ℕ) where
    -- none, or one, of what was passed in the scope has the name
    abbrev pub NonePassed : Type 0
    NonePassed = (i : ℕ) (x : ℕ × ℕ) → i < passed → slice_get order i ≡ Some x → x.0 ≡ scope → name_at names ss x.1 ≡ name → ⊥

    abbrev pub OnePassed : ℕ → Type 0
    OnePassed j = (i : ℕ) × (i < passed) × (slice_get order i ≡ Some (scope, j)) × (name_at names ss j ≡ name)

    module _ (within : AreWithin order passed scope) where
      at_place : (place : ℕ) → IsLatest names ss order passed name place → MatchOption (number_in scope (slice_get order place)) NonePassed OnePassed
      at_place place (inr past) =
          subst (λ o. MatchOption (number_in scope o) NonePassed OnePassed) (sym (slice_get_past order place past.0)) (λ i x lt at same is. past.1 i lt (x, at, is))
      at_place place (inl l) = subst (λ o. MatchOption (number_in scope o) NonePassed OnePassed) (sym l.1.1) (here (nat_eq y.0 scope) refl)
        where
          y : ℕ × ℕ
          y = l.1.0

          here : (b : Bool) → nat_eq y.0 scope ≡ b → MatchOption (cond b (Some y.1) None) NonePassed OnePassed
          here true e =
              let is : y.0 ≡ scope = grind (arith, nat_tests) in
              (place, l.0, subst (λ (z : ℕ). slice_get order place ≡ Some (z, y.1)) is l.1.1, l.1.2)
          here false e = λ i x lt at same is. later i x lt at same (l.2 i lt (x, at, is)) (cases_eq i place)
            where
              other : y.0 ≡ scope → ⊥
              other is = let wrong : true ≡ false = sym (eq-eqb y.0 scope is) ∙ e in cc

              later : (i : ℕ) (x : ℕ × ℕ) → i < passed → slice_get order i ≡ Some x → x.0 ≡ scope → i ≤ place → (i ≡ place) ⊎ (i ≡ place → ⊥) → ⊥
              later i x lt at same le (inl e) = other (ap (λ (z : ℕ × ℕ). z.0) (one_there order place i y x (sym e) l.1.1 at) ∙ same)
              later i x lt at same le (inr ne) =
                  let up = not_lower x y (walk.ordered.ascends i place x y (omega arith) at l.1.1) in
                  let down = within place y l.0 l.1.1 in
                  other (omega (arith, same))

      pub says : MatchOption (number_there scope order (slice_get latest name)) NonePassed OnePassed
      says = table (slice_get latest name) refl
        where
          table : (o : Option ℕ) → slice_get latest name ≡ o → MatchOption (number_there scope order o) NonePassed OnePassed
          table (Some place) e = at_place place (walk.recent name place e)
          table None e = λ i x lt at same is. (
              let long = subst (λ (n : ℕ). n < length latest) is (has_place i x at) in
              let wrong : None ≡ Some (get_or latest name 0) = sym e ∙ slice_get-get_or latest name 0 long in cc)

      -- where all of the scope was passed, it says which number the name has there
      pub numbered : AreBehind order passed scope → (o : Option ℕ) → number_there scope order (slice_get latest name) ≡ o
          → MatchOption o ((j : ℕ) → SiteHasName names ss scope name j → ⊥) (SiteHasName names ss scope name)
      numbered behind o e = go o (subst (λ p. MatchOption p NonePassed OnePassed) e says)
        where
          there : (j : ℕ) (i : ℕ) (s : Site) → slice_get ss j ≡ Some s → s.scope ≡ scope → name_of names s.token ≡ name → slice_get order i ≡ Some (scope, j) → NonePassed → (i < passed) ⊎ (passed ≤ i) → ⊥
          there j i s at same is b none (inl lt) = none i (scope, j) lt b refl (name_is j s at ∙ is)
          there j i s at same is b none (inr le) = let wrong : scope < scope = behind i (scope, j) le b in omega arith

          go : (o : Option ℕ) → MatchOption o NonePassed OnePassed → MatchOption o ((j : ℕ) → SiteHasName names ss scope name j → ⊥) (SiteHasName names ss scope name)
          go None none = λ j h.
              let s = h.0 in
              let i = walk.ordered.all j s h.1 in
              there j i.0 s h.1 h.2.0 h.2.1 (subst (λ (z : ℕ). slice_get order i.0 ≡ Some (z, j)) h.2.0 i.1) none (cases_lt i.0 passed)
          go (Some j) one =
              let s = walk.ordered.sites one.0 (scope, j) one.2 in
              (s.0, s.1, (s.2, sym (name_is j s.0 s.1) ∙ one.3))

  -- ---- one site more

  module _ (x : ℕ × ℕ) (here : slice_get order passed ≡ Some x) where
    abbrev pub n : ℕ
    n = name_at names ss x.1

    within_here : AreWithin order passed x.0
    within_here i y lt at = not_lower y x (walk.ordered.ascends i passed y x lt at here)

    latest_more : (name place : ℕ) → slice_get (set latest n passed) name ≡ Some place → IsLatest names ss order (passed + 1) name place
    latest_more name place at = go (cases_eq name n)
      where
        long : name < length latest
        long = let lt = slice_get_within (set latest n passed) name place at in omega (arith, length-set latest n passed)

        read : get_or (set latest n passed) name 0 ≡ place
        read = get_or_from_slice_get (set latest n passed) name place 0 at

        old : (name ≡ n → ⊥) → IsLatest names ss order passed name place
        old ne = walk.recent name place (slice_get-get_or latest name 0 long ∙ ap Some (sym (get_or-set_other latest n name passed 0 ne) ∙ read))

        more : (name ≡ n → ⊥) → IsLatest names ss order passed name place → IsLatest names ss order (passed + 1) name place
        more ne (inl l) = inl (omega (arith, l.0), l.1, λ i lt h. before i lt h (cases_eq i passed))
          where
            before : (i : ℕ) → i < passed + 1 → IsNameAt names ss order name i → (i ≡ passed) ⊎ (i ≡ passed → ⊥) → i ≤ place
            before i lt h (inl e) = absurd (ne (sym h.2 ∙ ap (λ (z : ℕ × ℕ). name_at names ss z.1) (one_there order i passed h.0 x e h.1 here)))
            before i lt h (inr other) = l.2 i (omega arith) h
        more ne (inr past) = inr (past.0, λ i lt h. before i lt h (cases_eq i passed))
          where
            before : (i : ℕ) → i < passed + 1 → IsNameAt names ss order name i → (i ≡ passed) ⊎ (i ≡ passed → ⊥) → ⊥
            before i lt h (inl e) = ne (sym h.2 ∙ ap (λ (z : ℕ × ℕ). name_at names ss z.1) (one_there order i passed h.0 x e h.1 here))
            before i lt h (inr other) = past.1 i (omega arith) h

        go : (name ≡ n) ⊎ (name ≡ n → ⊥) → IsLatest names ss order (passed + 1) name place
        go (inl e) =
            let is : passed ≡ place = sym (get_or-set_same latest n passed 0 (subst (λ (z : ℕ). z < length latest) e long)) ∙ (ap (λ (z : ℕ). get_or (set latest n passed) z 0) (sym e) ∙ read) in
            inl (omega (arith, is), (x, subst (λ (z : ℕ). slice_get order z ≡ Some x) is here, sym e), λ i lt h. omega (arith, is))
        go (inr ne) = more ne (old ne)

    again_up : (f : Fault) → IsAgainBefore names ss order passed f → IsAgainBefore names ss order (passed + 1) f
    again_up f h = (h.0, h.1, h.2, h.3, h.4, omega (arith, h.5), h.6, h.7, h.8, h.9, h.10)

    again_here : (j : ℕ) → OnePassed x.0 n j → IsAgainBefore names ss order (passed + 1) (fault_again (token_at ss x.1))
    again_here j h = (h.0, passed, (x.0, j), x, h.1, omega arith, h.2, here, refl, h.3, refl)

    again_cases : (f : Fault) → IsAgainBefore names ss order (passed + 1) f → IsAgainBefore names ss order passed f
        ⊎ ((i : ℕ) × (y : ℕ × ℕ) × (i < passed) × (slice_get order i ≡ Some y) × (y.0 ≡ x.0) × (name_at names ss y.1 ≡ n) × (f ≡ fault_again (token_at ss x.1)))
    again_cases f (i, k, y, z, lt, in_range, a, b, scopes, named, is) = go (cases_eq k passed)
      where
        go : (k ≡ passed) ⊎ (k ≡ passed → ⊥) → IsAgainBefore names ss order passed f
            ⊎ ((i : ℕ) × (y : ℕ × ℕ) × (i < passed) × (slice_get order i ≡ Some y) × (y.0 ≡ x.0) × (name_at names ss y.1 ≡ n) × (f ≡ fault_again (token_at ss x.1)))
        go (inl e) =
            let same : z ≡ x = one_there order k passed z x e b here in
            inr (i, y, omega (arith, e), a, scopes ∙ ap (λ (w : ℕ × ℕ). w.0) same, named ∙ ap (λ (w : ℕ × ℕ). name_at names ss w.1) same, is ∙ ap (λ (w : ℕ × ℕ). fault_again (token_at ss w.1)) same)
        go (inr ne) = inl (i, k, y, z, lt, omega arith, a, b, scopes, named, is)

    again_more : (r : Option Fault) (o : Option ℕ) → MatchOption o (NonePassed x.0 n) (OnePassed x.0 n) → IsFirstOf again (again_at o (token_at ss x.1)) r
        → IsNamed (IsAgainBefore names ss order (passed + 1)) r
    again_more r (Some j) one first =
        first_more (IsAgainBefore names ss order passed) (IsAgainBefore names ss order (passed + 1)) (fault_again (token_at ss x.1)) again r
        (λ f h. elim (again_cases f h) [ inl a ↦ inl a | inr b ↦ inr b.6 ]) again_up (again_here j one) walk.named first
    again_more r None none first = kept again walk.named first
      where
        down : (f : Fault) → IsAgainBefore names ss order (passed + 1) f → IsAgainBefore names ss order passed f
        down f h = elim (again_cases f h) [ inl a ↦ a | inr b ↦ absurd (none b.0 b.1 b.2 b.3 b.4 b.5) ]

        kept : (a : Option Fault) → IsNamed (IsAgainBefore names ss order passed) a → IsFirstOf a None r → IsNamed (IsAgainBefore names ss order (passed + 1)) r
        kept None h e = subst (IsNamed (IsAgainBefore names ss order (passed + 1))) (sym e) (λ f k. h f (down f k))
        kept (Some g) h e = subst (IsNamed (IsAgainBefore names ss order (passed + 1))) (sym e) (named_along (IsAgainBefore names ss order passed) (IsAgainBefore names ss order (passed + 1)) (Some g) again_up down h)

    pub walk_more : (name token : ℕ) → name ≡ n → token ≡ token_at ss x.1 → (r : Option Fault) → IsFirstOf again (again_at (number_there x.0 order (slice_get latest name)) token) r
        → IsWalkAt names ss order (passed + 1) (set latest name passed) r
    walk_more name token named is r first = record {
      ordered = walk.ordered;
      placed = λ j s at. (let lt = walk.placed j s at in omega (arith, length-set latest name passed));
      recent = subst (λ (z : ℕ). (q place : ℕ) → slice_get (set latest z passed) q ≡ Some place → IsLatest names ss order (passed + 1) q place) (sym named) latest_more;
      named = again_more r (number_there x.0 order (slice_get latest n)) (says x.0 n within_here)
          (subst (λ (z : ℕ). IsFirstOf again (again_at (number_there x.0 order (slice_get latest z)) (token_at ss x.1)) r) named
          (subst (λ (z : ℕ). IsFirstOf again (again_at (number_there x.0 order (slice_get latest name)) z) r) is first));
    }

    -- the name in a list that has the same names
    pub named_here : (now : List ℕ) → AreNamedAlike names now ss → name_of now (token_at ss x.1) ≡ n
    named_here now alike =
        let s = walk.ordered.sites passed x here in
        ap (name_of now) (token_is x.1 s.0 s.1) ∙ (alike x.1 s.0 s.1 ∙ sym (name_is x.1 s.0 s.1))

  -- ---- the end of a walk

  pub walked : length order ≤ passed → IsNamed (IsAgain names ss) again
  walked end = named_along (IsAgainBefore names ss order passed) (IsAgain names ss) again up down walk.named
    where
      lower : (x y : ℕ × ℕ) → x.0 ≡ y.0 → IsEarlierSite x y → x.1 < y.1
      lower x y e (inl a) = absurd (omega (arith, e))
      lower x y e (inr a) = a.1

      up : (f : Fault) → IsAgainBefore names ss order passed f → IsAgain names ss f
      up f (i, k, x, y, lt, in_range, a, b, scopes, named, is) =
          let s = walk.ordered.sites i x a in
          let t = walk.ordered.sites k y b in (
            x.1,
            y.1,
            t.0,
            lower x y scopes (walk.ordered.ascends i k x y lt a b),
            t.1,
            (s.0, s.1, (s.2 ∙ (scopes ∙ sym t.2), sym (name_is x.1 s.0 s.1) ∙ (named ∙ name_is y.1 t.0 t.1))),
            is ∙ ap fault_again (token_is y.1 t.0 t.1),
          )

      down : (f : Fault) → IsAgain names ss f → IsAgainBefore names ss order passed f
      down f (i, j, s, lt, at, (t, there, (scopes, named)), is) = go (walk.ordered.all i t there) (walk.ordered.all j s at)
        where
          go : ((p : ℕ) × (slice_get order p ≡ Some (t.scope, i))) → ((q : ℕ) × (slice_get order q ≡ Some (s.scope, j))) → IsAgainBefore names ss order passed f
          go (p, a) (q, b) = (
            p,
            q,
            (t.scope, i),
            (s.scope, j),
            first (cases_order p q),
            (let far = slice_get_within order q (s.scope, j) b in omega arith),
            a,
            b,
            scopes,
            name_is i t there ∙ (named ∙ sym (name_is j s at)),
            is ∙ ap fault_again (sym (token_is j s at)),
          )
            where
              wrong : IsEarlierSite (s.scope, j) (t.scope, i) → ⊥
              wrong (inl c) = omega (arith, scopes)
              wrong (inr c) = omega (arith, c.1)

              first : (p ≡ q) ⊎ ((p < q) ⊎ (q < p)) → p < q
              first (inl e) = let same : i ≡ j = ap (λ (z : ℕ × ℕ). z.1) (one_there order p q (t.scope, i) (s.scope, j) e a b) in absurd (omega arith)
              first (inr (inl c)) = c
              first (inr (inr c)) = absurd (wrong (walk.ordered.ascends q p (s.scope, j) (t.scope, i) c b a))
