use Rattle.std.proofs.Common.{◌≡◌, ◌∙◌, refl, subst, false, inl, inr}
use Rattle.text_streams.specs.declared.stream.StateStream.{StateStream}
use Rattle.text_streams.specs.Positions.{left}
use Rattle.text_locations.specs.declared.tokens.Token.TheVariants.{InMemory, Fused, Named, CallSite}
use Rattle.text_locations.specs.Tokens.{has_token, ReadsTokenHere, ReadsQuotedHere, MissesQuotedHere}
use Rattle.text_locations.proofs.ReadingLemmas.{exit}
use Rattle.text_locations.proofs.firsts.read_first.Goals as goal

pub returns-then-take_token : goal.returns-then-take_token
returns-then-take_token g c = c.if-take_token.ensures.there refl

pub returns-then-take_token-2 : goal.returns-then-take_token-2
returns-then-take_token-2 g c =
    let e1 : c.take_token.new.stream ≡ c.args.stream.now = (c.if-take_token.ensures.without refl).0 in
    let P : StateStream g.row.S.Denot → Type 0 = λ s. ReadsTokenHere InMemory s c.take_token-2.new.stream in
    subst P e1 (c.if-take_token-2.ensures.there refl)

pub returns-then-take_token-3 : goal.returns-then-take_token-3
returns-then-take_token-3 g c =
    let e1 : c.take_token.new.stream ≡ c.args.stream.now = (c.if-take_token.ensures.without refl).0 in
    let e2 : c.take_token-2.new.stream ≡ c.args.stream.now = (c.if-take_token-2.ensures.without refl).0 ∙ e1 in
    let P : StateStream g.row.S.Denot → Type 0 = λ s. ReadsTokenHere Fused s c.take_token-3.new.stream in
    subst P e2 (c.if-take_token-3.ensures.there refl)

pub returns-then-take_token-4 : goal.returns-then-take_token-4
returns-then-take_token-4 g c =
    let e1 : c.take_token.new.stream ≡ c.args.stream.now = (c.if-take_token.ensures.without refl).0 in
    let e2 : c.take_token-2.new.stream ≡ c.args.stream.now = (c.if-take_token-2.ensures.without refl).0 ∙ e1 in
    let e3 : c.take_token-3.new.stream ≡ c.args.stream.now = (c.if-take_token-3.ensures.without refl).0 ∙ e2 in
    let P : StateStream g.row.S.Denot → Type 0 = λ s. ReadsTokenHere Named s c.take_token-4.new.stream in
    subst P e3 (c.if-take_token-4.ensures.there refl)

pub returns-then-take_token-5 : goal.returns-then-take_token-5
returns-then-take_token-5 g c =
    let e1 : c.take_token.new.stream ≡ c.args.stream.now = (c.if-take_token.ensures.without refl).0 in
    let e2 : c.take_token-2.new.stream ≡ c.args.stream.now = (c.if-take_token-2.ensures.without refl).0 ∙ e1 in
    let e3 : c.take_token-3.new.stream ≡ c.args.stream.now = (c.if-take_token-3.ensures.without refl).0 ∙ e2 in
    let e4 : c.take_token-4.new.stream ≡ c.args.stream.now = (c.if-take_token-4.ensures.without refl).0 ∙ e3 in
    let P : StateStream g.row.S.Denot → Type 0 = λ s. ReadsTokenHere CallSite s c.take_token-5.new.stream in
    subst P e4 (c.if-take_token-5.ensures.there refl)

pub returns-in_err-name : goal.returns-in_err-name
returns-in_err-name g c =
    let e1 : c.take_token.new.stream ≡ c.args.stream.now = (c.if-take_token.ensures.without refl).0 in
    let e2 : c.take_token-2.new.stream ≡ c.args.stream.now = (c.if-take_token-2.ensures.without refl).0 ∙ e1 in
    let e3 : c.take_token-3.new.stream ≡ c.args.stream.now = (c.if-take_token-3.ensures.without refl).0 ∙ e2 in
    let e4 : c.take_token-4.new.stream ≡ c.args.stream.now = (c.if-take_token-4.ensures.without refl).0 ∙ e3 in
    let e5 : c.take_token-5.new.stream ≡ c.args.stream.now = (c.if-take_token-5.ensures.without refl).0 ∙ e4 in
    let P2 : StateStream g.row.S.Denot → Type 0 = λ s. has_token InMemory (left s.position) ≡ false in
    let P3 : StateStream g.row.S.Denot → Type 0 = λ s. has_token Fused (left s.position) ≡ false in
    let P4 : StateStream g.row.S.Denot → Type 0 = λ s. has_token Named (left s.position) ≡ false in
    let P5 : StateStream g.row.S.Denot → Type 0 = λ s. has_token CallSite (left s.position) ≡ false in
    let Q : StateStream g.row.S.Denot → Type 0 = λ s. MissesQuotedHere s c.in_err-name.field-0.0 in
    exit _ _ c.from_residual.result c.in_err-name.field-0.0 c.from_residual.ensures.1
    (elim c.in_err-name.ensures [
      | inl memory ↦ inl memory
      | inr misses ↦ inr (record {
        unknown = (c.if-take_token.ensures.without refl).1;
        in_memory = subst P2 e1 (c.if-take_token-2.ensures.without refl).1;
        fused = subst P3 e2 (c.if-take_token-3.ensures.without refl).1;
        named = subst P4 e3 (c.if-take_token-4.ensures.without refl).1;
        call_site = subst P5 e4 (c.if-take_token-5.ensures.without refl).1;
        quoted = subst Q e5 misses;
      })
    ])

pub returns : goal.returns
returns g c =
    let e1 : c.take_token.new.stream ≡ c.args.stream.now = (c.if-take_token.ensures.without refl).0 in
    let e2 : c.take_token-2.new.stream ≡ c.args.stream.now = (c.if-take_token-2.ensures.without refl).0 ∙ e1 in
    let e3 : c.take_token-3.new.stream ≡ c.args.stream.now = (c.if-take_token-3.ensures.without refl).0 ∙ e2 in
    let e4 : c.take_token-4.new.stream ≡ c.args.stream.now = (c.if-take_token-4.ensures.without refl).0 ∙ e3 in
    let e5 : c.take_token-5.new.stream ≡ c.args.stream.now = (c.if-take_token-5.ensures.without refl).0 ∙ e4 in
    let Q : StateStream g.row.S.Denot → Type 0 = λ s. ReadsQuotedHere s c.in_ok-name.name c.take_quoted.new.stream in
    subst Q e5 c.in_ok-name.ensures
