-- Where the names of a text stand, what they mean, and the faults of scopes.
use Rattle.std.specs.Prelude.{◌≡◌, ℕ, ◌+◌, ◌-◌, ◌<◌, ◌==◌, List, [], ◌∷◌, ◌++◌, Option, Some, None, Bool, true, false, cond, ◌⊎◌, slice_get, slice_index, slice_index_or, length, reverse}
use Rattle.std.specs.Bool.{MatchBool}
use Rattle.std.specs.BTreeSet as bag
use Rattle.std.specs.BTreeSet.{BTreeSet}
use Rattle.std.specs.Ordering.{nat_cmp}
use Rattle.ir_grammar.specs.declared.grammar.Action.{Action}
use Rattle.ir_grammar.specs.declared.grammar.Action.TheVariants.{Result, Argument, Label, Operand, BeginSuccessor, Operation, EndOperation, BeginRegion, EndRegion}
use Rattle.ir_grammar.specs.declared.grammar.Event.{Event}
use Rattle.ir_grammar.specs.declared.grammar.Event.TheVariants.{Took, Did}
use Rattle.ir_tokens.specs.declared.faults.Fault.{Fault}
use Rattle.ir_tokens.specs.declared.faults.FaultKind.TheVariants.{MultipleDefinitions, UnresolvedReference, TopLevelOpRegionNotIsolatedFromAbove}
use Rattle.ir_scopes.specs.declared.scopes.Resolution.{Resolution}
use Rattle.ir_scopes.specs.declared.scopes.ScopeFault.{ScopeFault}
use Rattle.ir_scopes.specs.declared.scopes.ScopeFault.TheVariants.{Memory, Text}
use Rattle.ir_scopes.specs.declared.sites.Frame.{Frame}
use Rattle.ir_scopes.specs.declared.sites.Site.{Site}
use Rattle.ir_scopes.specs.declared.sites.Closing.{Closing}
use Rattle.ir_scopes.specs.declared.sites.NameSites.{NameSites}
use Rattle.ir_scopes.specs.declared.sites.Sites.{Sites}
use Rattle.ir_scopes.specs.declared.sites.Walker.{Walker}
use Rattle.ir_tokens.specs.Faults.{IsNamed}

-- whether operations of the kind with a number are isolated: not where there is no such kind
abbrev pub is_isolated_kind : {K : Type 0} → (K → Bool) → Option K → Bool
is_isolated_kind isolated None = false
is_isolated_kind isolated (Some kind) = isolated kind

-- whether operations of the kind with this number are isolated
abbrev pub isolated_at : {K : Type 0} → (ℕ → Option K) → (K → Bool) → ℕ → Bool
isolated_at kind_at isolated n = is_isolated_kind isolated (kind_at n)

-- the kind with this number is marked; one behind the last mark isn't
abbrev pub is_marked : List Bool → ℕ → Bool
is_marked marks n = slice_index_or marks n false

-- ---- what is open

-- A place among events: how many events and tokens stand before it, the innermost operation or region that it stands in, and
-- those around that, the inner ones first. A scope is given by the number of events that stand before it.
pub record EventPlace : Type 0 where
  pub events : ℕ
  pub tokens : ℕ
  pub here : Frame
  pub around : List Frame

-- outside of all operations, behind so many events
abbrev pub outside : ℕ → Frame
outside n = record { isolated = false; labels = n; labels_opened = 0; values = n; values_opened = 0 }

-- where a text begins
abbrev pub beginning : EventPlace
beginning = record { events = 0; tokens = 0; here = outside 0; around = [] }

-- the token before a place
abbrev pub last_token : EventPlace → ℕ
last_token at = at.tokens - 1

-- in an operation names mean what they mean around it
abbrev pub operation_frame : Bool → Frame → Frame
operation_frame isolated f = record {
  isolated = isolated;
  labels = f.labels;
  labels_opened = f.labels_opened;
  values = f.values;
  values_opened = f.values_opened;
}

-- a region is a scope of labels, and that of an isolated operation one of values too
abbrev pub region_frame : EventPlace → Frame
region_frame at = record {
  isolated = false;
  labels = at.events + 1;
  labels_opened = last_token at;
  values = cond at.here.isolated (at.events + 1) at.here.values;
  values_opened = cond at.here.isolated (last_token at) at.here.values_opened;
}

-- behind the end of an operation; that of the root, around which there is none, ends the scope outside of all operations
abbrev pub here_behind_operation : ℕ → List Frame → Frame
here_behind_operation n [] = outside (n + 1)
here_behind_operation n (f ∷ []) = outside (n + 1)
here_behind_operation n (f ∷ g ∷ fs) = f

-- behind the end of a region
abbrev pub here_behind_region : Frame → List Frame → Frame
here_behind_region here [] = here
here_behind_region here (f ∷ fs) = f

-- what is around the innermost of what is around
abbrev pub rest : List Frame → List Frame
rest [] = []
rest (f ∷ fs) = fs

-- the innermost of what is open behind an action
abbrev pub here_after : (ℕ → Bool) → EventPlace → Action → Frame
here_after isolated at (Operation n) = operation_frame (isolated n) at.here
here_after isolated at EndOperation = here_behind_operation at.events at.around
here_after isolated at BeginRegion = region_frame at
here_after isolated at EndRegion = here_behind_region at.here at.around
here_after isolated at _ = at.here

-- what is open around it
abbrev pub around_after : EventPlace → Action → List Frame
around_after at (Operation n) = at.here ∷ at.around
around_after at EndOperation = rest at.around
around_after at BeginRegion = at.here ∷ at.around
around_after at EndRegion = rest at.around
around_after at _ = at.around

-- the place behind an event
abbrev pub behind : (ℕ → Bool) → EventPlace → Event → EventPlace
behind isolated at Took = record { events = at.events + 1; tokens = at.tokens + 1; here = at.here; around = at.around }
behind isolated at (Did a) = record { events = at.events + 1; tokens = at.tokens; here = here_after isolated at a; around = around_after at a }

-- ---- the names

-- the definitions of values that an event makes: results and arguments
abbrev pub defined : EventPlace → Event → List Site
defined at (Did Result) = record { scope = at.here.values; token = last_token at } ∷ []
defined at (Did Argument) = record { scope = at.here.values; token = last_token at } ∷ []
defined at _ = []

-- the labels that it makes
abbrev pub labelled : EventPlace → Event → List Site
labelled at (Did Label) = record { scope = at.here.labels; token = last_token at } ∷ []
labelled at _ = []

-- the values that it mentions
abbrev pub mentioned : EventPlace → Event → List Site
mentioned at (Did Operand) = record { scope = at.here.values; token = last_token at } ∷ []
mentioned at _ = []

-- the blocks that it mentions by their labels: an edge mentions the block that it leads to
abbrev pub label_mentioned : EventPlace → Event → List Site
label_mentioned at (Did BeginSuccessor) = record { scope = at.here.labels; token = last_token at } ∷ []
label_mentioned at _ = []

-- the end of the scope of values in which a frame is, at a token
abbrev pub values_end : ℕ → Frame → Closing
values_end met f = record { scope = f.values; met = met; place = f.values_opened }

-- the same of the scope of labels
abbrev pub labels_end : ℕ → Frame → Closing
labels_end met f = record { scope = f.labels; met = met; place = f.labels_opened }

-- a scope ends where what follows is in another
abbrev pub ended : Closing → ℕ → List Closing
ended c next = cond (next == c.scope) [] (c ∷ [])

-- the ends of operations and regions may end scopes
abbrev pub may_end : Event → Bool
may_end (Did EndOperation) = true
may_end (Did EndRegion) = true
may_end _ = false

-- the scope of values that an event ends
abbrev pub closed : (ℕ → Bool) → EventPlace → Event → List Closing
closed isolated at e = cond (may_end e) (ended (values_end (last_token at) at.here) (behind isolated at e).here.values) []

-- the scope of labels that it ends
abbrev pub label_closed : (ℕ → Bool) → EventPlace → Event → List Closing
label_closed isolated at e = cond (may_end e) (ended (labels_end (last_token at) at.here) (behind isolated at e).here.labels) []

-- what events make, each at its place, in their order
abbrev pub each : {A : Type 0} → (ℕ → Bool) → (EventPlace → Event → List A) → EventPlace → List Event → List A
each isolated f at [] = []
each isolated f at (e ∷ es) = f at e ++ each isolated f (behind isolated at e) es

-- the definitions of values, in the order of the text
abbrev pub definitions : (ℕ → Bool) → List Event → List Site
definitions isolated es = each isolated defined beginning es

-- the labels, in the order of the text
abbrev pub labels : (ℕ → Bool) → List Event → List Site
labels isolated es = each isolated labelled beginning es

-- the mentions of values, in the order of the text
abbrev pub mentions : (ℕ → Bool) → List Event → List Site
mentions isolated es = each isolated mentioned beginning es

-- the ends of scopes of values, in the order of the text
abbrev pub closings : (ℕ → Bool) → List Event → List Closing
closings isolated es = each isolated (closed isolated) beginning es

-- the mentions of blocks by their labels, in the order of the text
abbrev pub label_mentions : (ℕ → Bool) → List Event → List Site
label_mentions isolated es = each isolated label_mentioned beginning es

-- the ends of scopes of labels, in the order of the text
abbrev pub label_closings : (ℕ → Bool) → List Event → List Closing
label_closings isolated es = each isolated (label_closed isolated) beginning es

-- what is open around the root: only what is outside of all operations
abbrev pub is_around_root : List Frame → Bool
is_around_root (f ∷ []) = true
is_around_root _ = false

-- the token that opens a region, if that is one of a root that isn't isolated: it stands directly below the root
abbrev pub opened_below_root : EventPlace → Event → List ℕ
opened_below_root at (Did BeginRegion) = cond (is_around_root at.around) (cond at.here.isolated [] (last_token at ∷ [])) []
opened_below_root at _ = []

-- the tokens that open the regions of such a root, in the order of the text
abbrev pub root_openings : (ℕ → Bool) → List Event → List ℕ
root_openings isolated es = each isolated opened_below_root beginning es

-- The names of one sort in a text, those of values or those of blocks: where they are defined, where they are mentioned, and
-- where their scopes end.
pub record Names : Type 0 where
  pub definitions : List Site
  pub mentions : List Site
  pub closings : List Closing

-- the names of values: a region of an isolated operation is a scope of them
abbrev pub value_names : (ℕ → Bool) → List Event → Names
value_names isolated es = record { definitions = definitions isolated es; mentions = mentions isolated es; closings = closings isolated es }

-- the labels, by which blocks are named: each region is a scope of them
abbrev pub label_names : (ℕ → Bool) → List Event → Names
label_names isolated es = record {
  definitions = labels isolated es;
  mentions = label_mentions isolated es;
  closings = label_closings isolated es;
}

-- the names that are collected
abbrev pub names_at : NameSites → Names
names_at n = record { definitions = n.definitions.items; mentions = n.mentions.items; closings = n.closings.items }

-- the one that is known, or else the first of these
abbrev pub known_or_first : Option ℕ → List ℕ → Option ℕ
known_or_first None ks = slice_get ks 0
known_or_first (Some k) ks = Some k

-- these are the names of events, and the first region of a root that isn't isolated opens there
pub record AreSites (isolated : ℕ → Bool) (es : List Event) (s : Sites) : Type 0 where
  pub values : names_at s.values ≡ value_names isolated es
  pub labels : names_at s.labels ≡ label_names isolated es
  pub root_opened : s.root_opened ≡ slice_get (root_openings isolated es) 0

-- where a walk over events has come to
abbrev pub place_of : Walker → EventPlace
place_of w = record { events = w.tokens + w.actions; tokens = w.tokens; here = w.here; around = reverse w.around.items }

-- ---- what they mean

-- the number of a token's name
abbrev pub name_of : List ℕ → ℕ → ℕ
name_of names k = slice_index names k

-- the name at a site is this one of this scope
abbrev pub IsNameAtSite : List ℕ → ℕ → ℕ → Site → Type 0
IsNameAtSite names scope name s = (s.scope ≡ scope) × (name_of names s.token ≡ name)

-- the site with this number is of this name in this scope
abbrev pub SiteHasName : List ℕ → List Site → ℕ → ℕ → ℕ → Type 0
SiteHasName names ss scope name j = (s : Site) × (slice_get ss j ≡ Some s) × IsNameAtSite names scope name s

-- the mention means the definition with this number: it is of the same name in the same scope
abbrev pub Means : List ℕ → List Site → Site → ℕ → Type 0
Means names ds m j = SiteHasName names ds m.scope (name_of names m.token) j

-- ---- the faults

-- a second definition is met at its name
abbrev pub fault_again : ℕ → Fault
fault_again k = record { kind = MultipleDefinitions; met = k; place = k }

-- The name at a site is that of an earlier site, in the same scope.
abbrev pub IsAgain : List ℕ → List Site → Fault → Type 0
IsAgain names ss f = (i : ℕ) × (j : ℕ) × (s : Site) × (i < j) × (slice_get ss j ≡ Some s) × SiteHasName names ss s.scope (name_of names s.token) i × (f ≡ fault_again s.token)

-- what is mentioned has no definition in its scope
abbrev pub IsUnresolved : List ℕ → List Site → Site → Type 0
IsUnresolved names ds m = (j : ℕ) → Means names ds m j → ⊥

-- a name without definition is met where its scope ends, and placed where that begins
abbrev pub fault_unresolved : Closing → Fault
fault_unresolved c = record { kind = UnresolvedReference; met = c.met; place = c.place }

-- some name is mentioned in this scope that has no definition there
abbrev pub LacksName : List ℕ → List Site → List Site → ℕ → Type 0
LacksName names ds ms scope = (i : ℕ) × (m : Site) × (slice_get ms i ≡ Some m) × (m.scope ≡ scope) × IsUnresolved names ds m

-- A scope ends, and a name that is mentioned in it has no definition there.
abbrev pub IsUnresolvedName : List ℕ → List Site → List Site → List Closing → Fault → Type 0
IsUnresolvedName names ds ms cs f = (i : ℕ) × (c : Closing) × (slice_get cs i ≡ Some c) × LacksName names ds ms c.scope × (f ≡ fault_unresolved c)

-- the faults of names of one sort: one that is defined twice, and one that has no definition
abbrev pub HasNameFault : List ℕ → Names → Fault → Type 0
HasNameFault names n f = IsAgain names n.definitions f ⊎ IsUnresolvedName names n.definitions n.mentions n.closings f

-- a region of a root that isn't isolated is met where it opens, and placed at the root's first token
abbrev pub fault_not_isolated : ℕ → Fault
fault_not_isolated k = record { kind = TopLevelOpRegionNotIsolatedFromAbove; met = k; place = 0 }

-- A region opens directly below the root, which isn't isolated.
abbrev pub IsRootFault : (ℕ → Bool) → List Event → Fault → Type 0
IsRootFault isolated es f = (i : ℕ) × (k : ℕ) × (slice_get (root_openings isolated es) i ≡ Some k) × (f ≡ fault_not_isolated k)

-- the faults of scopes in a text: those of names of values, those of labels, and those of its root
abbrev pub HasScopeFault : (ℕ → Bool) → List ℕ → List Event → Fault → Type 0
HasScopeFault isolated names es f = HasNameFault names (value_names isolated es) f ⊎ (HasNameFault names (label_names isolated es) f ⊎ IsRootFault isolated es f)

-- the faults that the names at these sites can have
abbrev pub HasSiteFault : List ℕ → Sites → Fault → Type 0
HasSiteFault names s f = HasNameFault names (names_at s.values) f ⊎ HasNameFault names (names_at s.labels) f

-- ---- looking up

-- the number of each definition stands at the place of its token
abbrev pub AreNoted : List Site → List ℕ → Type 0
AreNoted ds places = (j : ℕ) (d : Site) → slice_get ds j ≡ Some d → d.token < length places → slice_index places d.token ≡ j

-- the set has the scopes in which a name is mentioned that has no definition there
abbrev pub AreLacking : List ℕ → List Site → List Site → BTreeSet ℕ → Type 0
AreLacking names ds ms set = (scope : ℕ) → MatchBool (bag.contains nat_cmp set scope) (LacksName names ds ms scope) (LacksName names ds ms scope → ⊥)

-- at the token of each mention that means a definition stands the number of one that it means
abbrev pub MeanNoted : List ℕ → List Site → List Site → List ℕ → Type 0
MeanNoted names ds ms places = (i j : ℕ) (m : Site) → slice_get ms i ≡ Some m → Means names ds m j → m.token < length names → Means names ds m (slice_index places m.token)

-- At the token of each definition of one sort is its number, and at that of each mention that means one the number of one that it
-- means.
pub record AreLookedUp (names : List ℕ) (n : Names) (places : List ℕ) : Type 0 where
  pub defined : AreNoted n.definitions places
  pub mentioned : MeanNoted names n.definitions n.mentions places

-- a scope that is in the set ends
abbrev pub EndsAmong : BTreeSet ℕ → List Closing → Fault → Type 0
EndsAmong set cs f = (i : ℕ) × (c : Closing) × (slice_get cs i ≡ Some c) × (bag.contains nat_cmp set c.scope ≡ true) × (f ≡ fault_unresolved c)

-- ---- what looking up answers

-- no two of the sites have one token
abbrev pub HaveDistinctTokens : List Site → Type 0
HaveDistinctTokens ss = (i j : ℕ) (s t : Site) → slice_get ss i ≡ Some s → slice_get ss j ≡ Some t → s.token ≡ t.token → i ≡ j

-- each token names at most one of these
pub record SitesAreApart (ds ms : List Site) : Type 0 where
  pub definitions : HaveDistinctTokens ds
  pub mentions : HaveDistinctTokens ms
  pub both : (i j : ℕ) (s t : Site) → slice_get ds i ≡ Some s → slice_get ms j ≡ Some t → s.token ≡ t.token → ⊥

-- the site is one of the definitions or of the mentions
abbrev pub IsNameOf : Names → Site → Type 0
IsNameOf n s = ((i : ℕ) × (slice_get n.definitions i ≡ Some s)) ⊎ ((i : ℕ) × (slice_get n.mentions i ≡ Some s))

-- each token names at most one value or block
pub record NamesAreApart (vs ls : Names) : Type 0 where
  pub values : SitesAreApart vs.definitions vs.mentions
  pub labels : SitesAreApart ls.definitions ls.mentions
  pub both : (s t : Site) → IsNameOf vs s → IsNameOf ls t → s.token ≡ t.token → ⊥

-- What these names mean: so many of them are defined. The definitions have the numbers 0, 1, .. in the order of the text; at the
-- token of each, and of each mention that means it, is its number. Where the scope of a mention ends it means a definition.
pub record Resolves (names : List ℕ) (n : Names) (numbers : List ℕ) (many : ℕ) : Type 0 where
  pub count : many ≡ length n.definitions
  pub defined : (j : ℕ) (s : Site) → slice_get n.definitions j ≡ Some s → s.token < length names → slice_index numbers s.token ≡ j
  pub mentioned : (i j : ℕ) (m : Site) → slice_get n.mentions i ≡ Some m → Means names n.definitions m j → m.token < length names → slice_index numbers m.token ≡ j
  pub resolved : (i k : ℕ) (m : Site) (c : Closing) → slice_get n.mentions i ≡ Some m → slice_get n.closings k ≡ Some c → c.scope ≡ m.scope → (j : ℕ) × Means names n.definitions m j

-- What reading did has no fault of scopes, and its names are looked up: those of values, and labels. Values and blocks have
-- numbers of their own, and the numbers of both are in one list: each token names at most one of them.
pub record IsResolved (isolated : ℕ → Bool) (names : List ℕ) (es : List Event) (r : Resolution) : Type 0 where
  pub faultless : IsNamed (HasScopeFault isolated names es) None
  pub values : Resolves names (value_names isolated es) r.definitions r.count
  pub labels : Resolves names (label_names isolated es) r.definitions r.labels

-- the fault is the first of those that it has
abbrev pub IsScopeFault : (ℕ → Bool) → List ℕ → List Event → ScopeFault → Type 0
IsScopeFault isolated names es Memory = Unit {0}
IsScopeFault isolated names es (Text f) = IsNamed (HasScopeFault isolated names es) (Some f)
