use Rattle.std.proofs.Common.{◌≡◌, ◌+◌, ◌≤◌, ◌∷◌, [], ◌++◌, ℕ, Some, MatchOption, refl, take, get_or, sym, subst, ap, ◌∙◌, arith, slice_get}
use Rattle.std.proofs.lemmas.List.{get_or-set_other, length-set, take_more, take_all}
use Rattle.std.proofs.lemmas.Option.{slice_get-get_or, slice_get_within, get_or_from_slice_get}
use Rattle.ir_scopes.specs.declared.sites.Site.{Site}
use Rattle.ir_scopes.specs.Scopes.{AreLacking, SiteHasName, Means, IsUnresolved, name_of}
use Rattle.ir_scopes.specs.Orders.{AreNamedAlike, IsWithinScope}
use Rattle.ir_scopes.proofs.Places.{written_more, written_same}
use Rattle.ir_scopes.proofs.Lacking.{lacking_empty, lacking_kept, lacking_added}
use Rattle.ir_scopes.proofs.ScopeWalks.{numbered}
use Rattle.ir_scopes.proofs.scopes.note_mentions.Goals as goal
use Rattle.ir_scopes.proofs.scopes.note_mentions.Goals.{in-Some+in_ok-set-in-Some, in-None+in_ok-insert-in-None}

pub loop-site-init : goal.loop-site-init
loop-site-init c = record {
  lacking = lacking_empty c.args.places.now c.args.definitions.now c.new-lacking.result c.new-lacking.ensures.empty;
  noted = λ k s lt at within. absurd (omega (arith, lt));
  kept = λ k none. refl;
  walk = c.requires.walk;
  within = λ k m le at i x lt has. absurd (omega (arith, lt, c.requires.begins));
  many = refl;
}

pub loop-site-preserved : goal.loop-site-preserved
loop-site-preserved c =
    let names = c.args.places.now in
    let ds = c.args.definitions.now in
    let ms = c.args.mentions.now in
    let i = c.loop-site.site-index in
    let x : Site = get_or ms i (record { scope = 0; token = 0 }) in
    let more : take (i + 1) ms ≡ take i ms ++ x ∷ [] = take_more ms i _ c.loop-site-test.true in
    let here : slice_get ms i ≡ Some x = slice_get-get_or ms i _ c.loop-site-test.true in
    let now = c.loop-site.invariant in
    let v = c.pass_through.new.self in
    let alike : AreNamedAlike names c.loop-site.places ds
    = λ j s at. now.kept s.token (λ k m lt has e. c.requires.apart.both j k s m at has (sym e)) in
    let walk = c.pass_through.ensures.walk names alike now.walk in
    let within : IsWithinScope v x.scope = c.pass_through.ensures.within (now.within i x (omega arith) here) in
    let through = c.pass_through.ensures.through now.walk.ordered in
    let name_is : c.name_of.result ≡ name_of names x.token
    = c.name_of.ensures ∙ now.kept x.token (λ j m lt at e. let same = c.requires.apart.mentions j i m x at here e in omega (arith, lt)) in
    let told : MatchOption c.number_of.result (IsUnresolved names ds x) (Means names ds x)
    = subst (λ n. MatchOption c.number_of.result ((j : ℕ) → SiteHasName names ds x.scope n j → ⊥) (SiteHasName names ds x.scope n)) name_is
    (numbered names ds v.order.items v.passed v.latest.items v.again walk x.scope c.name_of.result within through c.number_of.result (sym c.number_of.ensures)) in
    let later : (k : ℕ) (m : Site) → i + 1 ≤ k → slice_get ms k ≡ Some m → IsWithinScope v m.scope
    = λ k m le at j y lt has. (
    let low = within j y lt has in
    let up : (get_or ms i m).scope ≤ (get_or ms k m).scope = c.requires.order i k m (omega arith) (slice_get_within ms k m at) in
    let a : get_or ms i m ≡ x = get_or_from_slice_get ms i x m here in
    let b : get_or ms k m ≡ m = get_or_from_slice_get ms k m m at in
    omega (arith, low, up, ap (λ (t : Site). t.scope) a, ap (λ (t : Site). t.scope) b)) in
    let Suits : Site → ℕ → ℕ → Type 0 = λ m k v. (j : ℕ) → Means names ds m j → Means names ds m v in
    elim c.match-number_of.branch [
      | in-Some+in_ok-set-in-Some w ↦ (
          let means : Means names ds x w.in-Some.number = subst (λ o. MatchOption o (IsUnresolved names ds x) (Means names ds x)) w.in-Some.is told in
          rw (more, w.places-is, w.in_ok-set-in-Some.ensures.set, w.lacking-is) (record {
            lacking = lacking_kept names ds (take i ms) x w.in-Some.number c.loop-site.lacking means now.lacking;
            noted = written_more Suits ms i x here c.loop-site.places w.in-Some.number (λ j e. means) c.requires.apart.mentions now.noted;
            kept = λ k none. get_or-set_other c.loop-site.places x.token k _ 0 (λ e. none i x (omega arith) here (sym e)) ∙ now.kept k (λ j m lt. none j m (omega (arith, lt)));
            walk = walk;
            within = later;
            many = length-set c.loop-site.places x.token w.in-Some.number ∙ now.many;
          }))
      | in-None+in_ok-insert-in-None w ↦ (
          let lacks : IsUnresolved names ds x = subst (λ o. MatchOption o (IsUnresolved names ds x) (Means names ds x)) w.in-None.is told in
          rw (more, w.places-is, w.lacking-is) (record {
            lacking = lacking_added names ds (take i ms) x c.loop-site.lacking w.insert.new.self lacks w.in_ok-insert-in-None.ensures.updates now.lacking;
            noted = written_same Suits ms i x here c.loop-site.places (λ v j e. absurd (lacks j e)) now.noted;
            kept = λ k none. now.kept k (λ j m lt. none j m (omega (arith, lt)));
            walk = walk;
            within = later;
            many = now.many;
          }))
    ]

pub returns-clause-lacking : goal.returns-clause-lacking
returns-clause-lacking c = subst (λ ms. AreLacking c.args.places.now c.args.definitions.now ms c.loop-site.lacking) (take_all c.loop-site.site-index c.args.mentions.now c.loop-site-test.false) c.loop-site.invariant.lacking

pub returns-clause-noted : goal.returns-clause-noted
returns-clause-noted c = λ i j m at means within.
    let there = slice_get_within c.args.mentions.now i m at in
    c.loop-site.invariant.noted i m (omega (arith, c.loop-site-test.false)) at (omega (arith, c.loop-site.invariant.many)) j means

pub returns-clause-kept : goal.returns-clause-kept
returns-clause-kept c = λ k none. c.loop-site.invariant.kept k (λ i m lt. none i m)

pub returns-clause-walk : goal.returns-clause-walk
returns-clause-walk c = c.loop-site.invariant.walk
