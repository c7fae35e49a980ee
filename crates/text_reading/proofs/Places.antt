-- Where a fault is told: at its token, or behind the last character.
use Rattle.std.proofs.Common.{◌≡◌, ℕ, ◌+◌, ◌-◌, ◌<◌, ◌≤◌, List, length, take, None, slice_get, slice_index, refl, sym, ap, ◌∙◌, arith}
use Rattle.std.proofs.lemmas.Option.{slice_get_past}
use Rattle.ir_tokens.specs.declared.tokens.Token.{Token}
use Rattle.ir_tokens.specs.Tokens.{ReadsAs, place, starts_of}
use Rattle.ir_formats.proofs.Between.{many_starts, start_at}
use Rattle.ir_rereading.specs.Texts.{place_of}

module _ (cs : List ℕ) (ts : List Token) (starts : List ℕ) (are : starts ≡ starts_of cs ts) (reads : ReadsAs cs 0 ts) where
  -- there is one place more than there are tokens
  pub token_count : length ts ≡ length starts - 1
  token_count = sym (many_starts cs 0 ts reads) ∙ ap (λ (xs : List ℕ). length xs - 1) (sym are)

  -- where another place follows, this one is that of a token
  pub token_place : (k : ℕ) → k + 1 < length starts → place (take (slice_index starts k) cs) ≡ place_of cs ts k
  token_place k more =
      let count = token_count in
      let lt : k < length ts = omega (arith, count) in
      let found = start_at cs 0 ts k reads lt in
      let first : slice_index starts k ≡ found.0.start = ap (λ xs. slice_index xs k) are ∙ found.2 in
      rw (first, found.1) refl

  -- where one place is left, or none, no token has this number
  pub no_token_place : (k : ℕ) → length starts ≤ k + 1 → place cs ≡ place_of cs ts k
  no_token_place k few =
      let count = token_count in
      let past : slice_get ts k ≡ None = slice_get_past ts k (omega (arith, count)) in
      rw past refl
