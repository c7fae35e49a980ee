-- What was read of the operations of a text.
use Rattle.std.proofs.Common.{Bor, List, Result, [], None, ap, chars, encode_utf8_all, refl, subst, ℕ, ◌≡◌, ◌∙◌}
use Rattle.std.specs.Prelude.{IfErr, IfOk, IsUtf8}
use Rattle.std.proofs.lemmas.Str.{encodes-chars}
use Rattle.ir_characters.specs.Texts.{owned_codes}
use Rattle.kit.specs.Context.{KitContext}
use Rattle.outlined_texts.specs.Splits.{IsSplit}
use Rattle.outlined_texts.specs.declared.splitting.OutlinedText.{OutlinedText}
use Rattle.irkit_refusals.specs.declared.refusal.Refusal.{Refusal}
use Rattle.irkit_running.specs.Outcomes.{Loads}
use Rattle.irkit_outlines.proofs.Answered.{err_so, ok_so}
use Rattle.irkit_outlines.specs.Outlined.{IsBareText, IsRefused, LoadsFront}
use Rattle.irkit_outlines.specs.declared.outlines.OutlinedModule.{OutlinedModule}

module _ (text cs : List ℕ) (split : OutlinedText) (spelt : cs ≡ chars text) (splits : IsSplit cs split) (lent : Bor OutlinedText)
    (is : lent.now ≡ split) (ctx new_ctx : KitContext) (r : Result OutlinedModule Refusal) where
  here : IsSplit (chars text) split
  here = subst (λ xs. IsSplit xs split) spelt splits

  front : encode_utf8_all (owned_codes lent.now.front) ≡ encode_utf8_all (owned_codes split.front)
  front = ap (λ s. encode_utf8_all (owned_codes s.front)) is

  -- the operations of a text were read
  pub loads_front : IfOk r (λ m. Loads (encode_utf8_all (owned_codes lent.now.front)) ctx new_ctx m.root) → IfOk r (λ m. LoadsFront text ctx new_ctx m.root)
  loads_front h = ok_so r
      (λ m g. record {
        front = encode_utf8_all (owned_codes split.front);
        is_front = record { split = split; splits = here; spelt = refl };
        loads = subst (λ bytes. Loads bytes ctx new_ctx m.root) front g;
      })
      h

  -- those of a bare text are all of it
  whole : IsUtf8 text → (split.section ≡ None → split.marks.items ≡ [] → owned_codes split.front ≡ cs) → IsBareText text
      → encode_utf8_all (owned_codes lent.now.front) ≡ text
  whole utf8 plain bare = let none = bare split here in front ∙ ap encode_utf8_all (plain none.0 none.1 ∙ spelt) ∙ encodes-chars text utf8

  pub loads_bare : IsUtf8 text → (split.section ≡ None → split.marks.items ≡ [] → owned_codes split.front ≡ cs) → IsBareText text
      → IfOk r (λ m. Loads (encode_utf8_all (owned_codes lent.now.front)) ctx new_ctx m.root) → IfOk r (λ m. Loads text ctx new_ctx m.root)
  loads_bare utf8 plain bare h = ok_so r (λ m g. subst (λ bytes. Loads bytes ctx new_ctx m.root) (whole utf8 plain bare) g) h

  pub refuses_bare : IsUtf8 text → (split.section ≡ None → split.marks.items ≡ [] → owned_codes split.front ≡ cs) → IsBareText text
      → IfErr r (IsRefused (encode_utf8_all (owned_codes lent.now.front)) ctx) → IfErr r (IsRefused text ctx)
  refuses_bare utf8 plain bare h = err_so r (λ e g. subst (λ bytes. IsRefused bytes ctx e) (whole utf8 plain bare) g) h
