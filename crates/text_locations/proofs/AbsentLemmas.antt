-- Where no first token of a location is, no text of a location begins.
use Rattle.std.proofs.Common.{◌≡◌, ◌∙◌, sym, ap, inl, inr, ℕ, suc, zero, Bool, true, false, List, Option, None, Some}
use Rattle.ir_locations.specs.declared.location.Location.{Location}
use Rattle.ir_locations.specs.declared.source.Source.{Source}
use Rattle.ir_locations.specs.declared.source.Source.TheVariants as sources
use Rattle.text_streams.specs.declared.stream.StateStream.{StateStream}
use Rattle.text_streams.specs.declared.faults.ParseFault.{ParseFault}
use Rattle.text_streams.specs.declared.faults.TextError.TheVariants.{Memory, Syntax, TooDeep}
use Rattle.text_streams.specs.Positions.{left}
use Rattle.text_locations.specs.Firsts.{MissesFirst}
use Rattle.text_locations.specs.Locations.{Parser, At, RefusesLocation}
use Rattle.text_locations.specs.Texts.{MetadataTexts, LocationTexts, IsSource, IsForm, IsLocationText}

not_both : (b : Bool) → b ≡ true → b ≡ false → ⊥
not_both true e k = cc
not_both false e k = cc

none-is_some : {X : Type 0} (o : Option X) (x : X) → o ≡ None → o ≡ Some x → ⊥
none-is_some o x e k = cc

no_source : {S : Type 0} (old : StateStream S) (fault : ParseFault) (source : Source) (rest : List ℕ) → MissesFirst old fault →
    IsSource (left old.position) source rest → ⊥
no_source old fault sources.InMemory rest h k = not_both _ k.there h.in_memory
no_source old fault (sources.File name) rest h k = none-is_some _ k.said h.quoted.without k.there

no_form : {S A : Type 0} (texts : MetadataTexts A) (room : Bool) (inner : LocationTexts A) (old : StateStream S) (fault : ParseFault) (l : Location A) (rest : List ℕ) →
    MissesFirst old fault → IsForm texts room inner (left old.position) l rest → ⊥
no_form texts room inner old fault l rest h form =
    elim form [
      | inl unknown ↦ not_both _ unknown.1.there h.unknown
      | inr others ↦ elim others [
        | inl place ↦ no_source old fault place.source place.behind h place.source_text
        | inr more ↦ elim more [
          | inl fused ↦ not_both _ fused.word.there h.fused
          | inr last ↦ elim last [
            | inl named ↦ not_both _ named.word.there h.named
            | inr call ↦ not_both _ call.word.there h.call_site
          ]
        ]
      ]
    ]

no_text : {S A : Type 0} (texts : MetadataTexts A) (depth : ℕ) (old : StateStream S) (fault : ParseFault) (l : Location A) (rest : List ℕ) →
    MissesFirst old fault → IsLocationText texts depth (left old.position) l rest → ⊥
unfolding IsLocationText
no_text texts zero old fault l rest h k = k
no_text texts (suc depth) old fault l rest h k = no_form texts _ _ old fault l rest h k

-- a syntax fault before which nothing was read says that no location begins here, however deep
pub absent : {F S A : Type 0} (parser : Parser F S A) (texts : MetadataTexts A) (depth : ℕ) (v : At F S) (fault : ParseFault) →
    RefusesLocation parser depth v fault → fault.cause ≡ Syntax → fault.consumed ≡ false →
    (n : ℕ) (l : Location A) (rest : List ℕ) → IsLocationText texts n (left v.1.position) l rest → ⊥
unfolding RefusesLocation
absent parser texts zero v fault h e k n l rest =
    elim h [
      | inl first ↦ elim first [
        | inl memory ↦ λ _. (let wrong : Memory ≡ Syntax = sym memory ∙ e in cc)
        | inr misses ↦ λ text. no_text texts n v.1 fault l rest misses text
      ]
      | inr deep ↦ λ _. (let wrong : TooDeep ≡ Syntax = sym deep.3.cause ∙ e in cc)
    ]
absent parser texts (suc depth) v fault h e k n l rest =
    elim h [
      | inl first ↦ elim first [
        | inl memory ↦ λ _. (let wrong : Memory ≡ Syntax = sym memory ∙ e in cc)
        | inr misses ↦ λ text. no_text texts n v.1 fault l rest misses text
      ]
      | inr behind ↦ λ _. (let wrong : true ≡ false = sym (ap (λ f. f.consumed) behind.4) ∙ k in cc)
    ]
