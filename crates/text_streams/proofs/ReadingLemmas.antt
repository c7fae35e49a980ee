-- What was written in quotes is read again, from a stream.
use Rattle.std.proofs.Common.{◌≡◌, ◌∙◌, sym, ap, ℕ, inl, inr, List, ◌++◌, Some, None, Ok, Err, Result, Global, encode_utf8_all}
use Rattle.std.proofs.lemmas.List.{append_cancel_left}
use Rattle.std.specs.declared.string.String.{String}
use Rattle.ir_print.specs.Layout.{in_quotes}
use Rattle.text_streams.specs.declared.stream.StateStream.{StateStream}
use Rattle.text_streams.specs.declared.faults.ParseFault.{ParseFault}
use Rattle.text_streams.specs.Positions.{left}
use Rattle.text_streams.specs.Quotes.{quoted_text}
use Rattle.text_streams.specs.Reading.{ReadsText, ReadsBack}
use Rattle.text_streams.proofs.QuoteLemmas.{quoted_text-in_quotes}

some_injective : {X : Type 0} (x y : X) → Some x ≡ Some y → x ≡ y
some_injective x y e = ap (λ o. elim o [ None ↦ x | Some z ↦ z ]) e

none-is_none : {X : Type 0} {x : X} → None ≡ Some x → ⊥
none-is_none e = cc

pub reads_back : {S : Type 0} (old new : StateStream S) (result : Result (String Global) ParseFault) (cs rest : List ℕ) →
    left old.position ≡ in_quotes cs ++ rest → ReadsText (quoted_text (left old.position)) old new result → ReadsBack cs rest new result
reads_back old new (Ok text) cs rest e h =
    let there : quoted_text (left old.position) ≡ Some (cs, in_quotes cs) = ap quoted_text e ∙ quoted_text-in_quotes cs rest in
    let said : h.said ≡ (cs, in_quotes cs) = some_injective h.said (cs, in_quotes cs) (sym h.there ∙ there) in (
      h.holds ∙ ap (λ s. encode_utf8_all s.0) said,
      append_cancel_left (in_quotes cs) (left new.position) rest (ap (λ s. s.1 ++ left new.position) (sym said) ∙ sym h.reads.behind.taken ∙ e),
    )
reads_back old new (Err fault) cs rest e h =
    let there : quoted_text (left old.position) ≡ Some (cs, in_quotes cs) = ap quoted_text e ∙ quoted_text-in_quotes cs rest in
    elim h.why [ inl memory ↦ memory | inr why ↦ elim why.1 [ inl none ↦ absurd (none-is_none (sym none ∙ there)) | inr refused ↦ absurd refused.2 ] ]
