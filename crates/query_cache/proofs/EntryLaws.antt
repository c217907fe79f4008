-- Entries that are found by a test of their keys which holds of one key alone.
use Rattle.std.proofs.Common.{◌≡◌, ℕ, suc, ◌-◌, Bool, true, false, List, [], ◌∷◌, take, drop, Option, Some, None, ◌⊎◌, inl, inr, refl, ap, subst, ◌∙◌}
use Rattle.std.specs.Prelude.{◌≢◌, slice_get, remove, is_some, option_map, All}
use Rattle.std.specs.Option.{option_map_or}
use Rattle.std.specs.Map.{lookup, lookup_entry, remove_entry}
use Rattle.std.proofs.lemmas.Map.{none_passes_from_lookup}
use Rattle.std.proofs.lemmas.List.Elements.{All-from_recursion, All-weaker, All-get_or, All-append, All-take, All-drop}
use Rattle.std.proofs.lemmas.Option.{slice_get_within, get_or_from_slice_get}
use Rattle.lru.specs.LruCache.{promoted}
use Rattle.lru.proofs.CallerLemmas.{Contains-lookup_entry}

-- an entry and the list without it, by its place
pub record StandsAt {K V : Type 0} (key : K) (value : V) (entries others : List (K × V)) : Type 0 where
  pub at : ℕ
  pub here : slice_get entries at ≡ Some (key, value)
  pub rest : others ≡ remove entries at

-- what holds of all entries holds of one and of the others
pub All-here : {X : Type 0} (P : X → Type 0) (xs : List X) (at : ℕ) (x : X) → slice_get xs at ≡ Some x → All P xs → P x
All-here P xs at x here all = subst P (get_or_from_slice_get xs at x x here) (All-get_or P xs at x (slice_get_within xs at x here) all)

pub All-remove : {X : Type 0} (P : X → Type 0) (xs : List X) (at : ℕ) → All P xs → All P (remove xs at)
All-remove P xs at all = All-append P (take at xs) (drop (suc at) xs) (All-take P at xs all) (All-drop P (suc at) xs all)

none_found : {X : Type 0} (o : Option X) → is_some o ≡ false → o ≡ None
none_found None h = refl
none_found (Some x) h = cc

-- a test that holds of the key alone
abbrev pub IsTestOf : {K : Type 0} → (K → Bool) → K → Type 0
IsTestOf {K} test key = ((k : K) → test k ≡ true → k ≡ key) × (test key ≡ true)

module _ {K V : Type 0} (test : K → Bool) (key : K) where
  -- the value that is found is that of the entry that is found
  same_value : (es : List (K × V)) → lookup test es ≡ option_map (λ e. e.1) (lookup_entry test es)
  same_value [] = refl
  same_value (f ∷ es) = (elim (test f.0) as (λ y. test f.0 ≡ y → lookup test (f ∷ es) ≡ option_map (λ e. e.1) (lookup_entry test (f ∷ es))) [
    | true ↦ λ t. rw t refl
    | false ↦ λ t. rw t (same_value es)
  ]) refl

  standing : IsTestOf test key → (es : List (K × V)) (e : K × V) → lookup_entry test es ≡ Some e → StandsAt key e.1 es (remove_entry test es)
  standing one [] e h = cc
  standing one (f ∷ es) e h = (elim (test f.0) as (λ y. test f.0 ≡ y → StandsAt key e.1 (f ∷ es) (remove_entry test (f ∷ es))) [
    | true ↦ λ t.
        let h' = rw t at h in
        let same : f ≡ e = cc in
        let named : f.0 ≡ key = one.0 f.0 t in
        record {
          at = 0;
          here = ap (λ (k : K). Some (k, f.1)) named ∙ ap (λ (p : K × V). Some (key, p.1)) same;
          rest = rw t refl;
        }
    | false ↦ λ t.
        let on = standing one es e (rw t at h) in
        record { at = suc on.at; here = on.here; rest = rw t (ap (λ l. f ∷ l) on.rest) }
  ]) refl

  lacking : IsTestOf test key → (es : List (K × V)) → lookup test es ≡ None → All (λ e. e.0 ≢ key) es
  lacking one es none =
      let failing = All-from_recursion (λ e. test e.0 ≡ false) es (none_passes_from_lookup test es none) in
      All-weaker (λ e. test e.0 ≡ false) (λ e. e.0 ≢ key) (λ e fails same. let passes : test e.0 ≡ true = ap test same ∙ one.1 in cc) es failing

  -- the entry of the key is in front, and before it stood at a place
  pub record Fronts (before after : List (K × V)) : Type 0 where
    pub value : V
    pub stands : StandsAt key value before (remove_entry test before)
    pub front : after ≡ (key, value) ∷ remove_entry test before

  fronting : IsTestOf test key → (es : List (K × V)) (o : Option (K × V)) → lookup_entry test es ≡ o → is_some (option_map (λ (e : K × V). e.1) o) ≡ true → Fronts es (option_map_or (λ e. e ∷ remove_entry test es) o es)
  fronting one es None h some = cc
  fronting one es (Some e) h some = record {
    value = e.1;
    stands = standing one es e h;
    front = ap (λ (k : K). (k, e.1) ∷ remove_entry test es) (one.0 e.0 (Contains-lookup_entry test es e h).1);
  }

  -- where an entry passes, bringing it to the front
  pub found : IsTestOf test key → (es : List (K × V)) → is_some (lookup test es) ≡ true → Fronts es (promoted test es)
  found one es some = fronting one es (lookup_entry test es) refl (subst (λ o. is_some o ≡ true) (same_value es) some)

  staying : (es : List (K × V)) (o : Option (K × V)) → is_some (option_map (λ (e : K × V). e.1) o) ≡ false → option_map_or (λ e. e ∷ remove_entry test es) o es ≡ es
  staying es None none = refl
  staying es (Some e) none = cc

  -- where none passes, no entry has the key, and all stay
  pub missed : IsTestOf test key → (es : List (K × V)) → is_some (lookup test es) ≡ false → All (λ e. e.0 ≢ key) es × (promoted test es ≡ es)
  missed one es none = (
    lacking one es (none_found (lookup test es) none),
    staying es (lookup_entry test es) (subst (λ o. is_some o ≡ false) (same_value es) none),
  )

  -- a value that is put under the key stands in front, in the place of an older one or before all but the last
  pub record InPlace (value : V) (before after : List (K × V)) : Type 0 where
    pub older : V
    pub stands : StandsAt key older before (remove_entry test before)
    pub front : after ≡ (key, value) ∷ remove_entry test before

  pub record Before (value : V) (room : ℕ) (before after : List (K × V)) : Type 0 where
    pub lacks : All (λ (e : K × V). e.0 ≢ key) before
    pub front : after ≡ (key, value) ∷ take (room - 1) before

  putting : IsTestOf test key → (value : V) (room : ℕ) (es : List (K × V)) (o : Option (K × V)) → lookup_entry test es ≡ o → InPlace value es (option_map_or (λ e. (e.0, value) ∷ remove_entry test es) o ((key, value) ∷ take (room - 1) es)) ⊎ Before value room es (option_map_or (λ e. (e.0, value) ∷ remove_entry test es) o ((key, value) ∷ take (room - 1) es))
  putting one value room es None h = inr (record { lacks = lacking one es (same_value es ∙ ap (option_map (λ (e : K × V). e.1)) h); front = refl })
  putting one value room es (Some e) h = inl (record {
    older = e.1;
    stands = standing one es e h;
    front = ap (λ (k : K). (k, value) ∷ remove_entry test es) (one.0 e.0 (Contains-lookup_entry test es e h).1);
  })

  pub put : IsTestOf test key → (value : V) (room : ℕ) (es : List (K × V)) → InPlace value es (option_map_or (λ e. (e.0, value) ∷ remove_entry test es) (lookup_entry test es) ((key, value) ∷ take (room - 1) es)) ⊎ Before value room es (option_map_or (λ e. (e.0, value) ∷ remove_entry test es) (lookup_entry test es) ((key, value) ∷ take (room - 1) es))
  put one value room es = putting one value room es (lookup_entry test es) refl
