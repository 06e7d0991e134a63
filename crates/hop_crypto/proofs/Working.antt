-- Bodies that go through a cipher one by one, and in two parts.
use Rattle.std.proofs.Common.{◌≡◌, ℕ, ◌+◌, ◌*◌, [], ◌∷◌, ◌++◌, List, length, map, refl, ap, sym, subst, ◌∙◌, arith, length-append}
use Rattle.std.proofs.lemmas.List.{length-map, map-append}
use Rattle.relay_cell.specs.declared.head.Opened.{Opened}
use Rattle.crypto_spec.specs.HopLayer.{OpeningLayer, OpenedBody, opened, after_opening, opened_all, after_opening_all, sealed_all}
use Rattle.crypto_spec.proofs.HopLayers.{opened_all-append, after_opening_all-append, after_opening_all-position, length-opened_all, sealed_all-append, length-sealed_all}
use Rattle.hop_crypto.specs.OpenerState.{OpenerState, opener_of}
use Rattle.hop_crypto.specs.Ciphers.{IsOfLayer, IsWorked, direction_of, position_of, opened_from, sealed_from}
use Rattle.hop_crypto.specs.declared.cipher.Cipher.{Cipher}
use Rattle.hop_crypto.specs.declared.cipher.Cipher.TheVariants.{Forth, Back}

-- One body through an opener.
pub IsWorked-opened : (start end : OpenerState) (body : List ℕ) (out : Opened)
    → ((layer : OpeningLayer) → start ≡ opener_of layer
    → opened layer body ≡ record { body = out.body; recognised = out.recognised })
    → ((layer : OpeningLayer) → start ≡ opener_of layer → end ≡ opener_of (after_opening layer body))
    → IsWorked (Forth start) (body ∷ []) (out ∷ []) (Forth end)
IsWorked-opened start end body out output state = λ layer stands.
    (ap (λ (b : OpenedBody). opened_from b ∷ []) (sym (output layer stands)), ap Forth (state layer stands))

-- No body.
pub IsWorked-none : (cipher : Cipher) → IsWorked cipher [] [] cipher
IsWorked-none (Forth opener) = λ layer stands. (refl, ap Forth stands)
IsWorked-none (Back sealer) =
    let here : sealer.position ≡ sealer.position + 509 * 0 = omega arith in
    (refl, ap (λ (p : ℕ). Back (record { key = sealer.key; position = p })) here)

-- Bodies in two parts.
pub IsWorked-append : (start middle end : Cipher) (xs ys : List (List ℕ)) (os ps : List Opened)
    → IsWorked start xs os middle → IsWorked middle ys ps end → IsWorked start (xs ++ ys) (os ++ ps) end
IsWorked-append (Forth start) middle end xs ys os ps first second = λ layer stands.
    let f = first layer stands in
    let P : Cipher → Type 0 = λ c. IsWorked c ys ps end in
    let s = subst P f.1 second (after_opening_all layer xs) refl in (
      rw (opened_all-append layer xs ys)
          (rw (map-append opened_from)
          (ap (λ (o : List Opened). o ++ ps) f.0 ∙ ap (λ (o : List Opened). map opened_from (opened_all layer xs) ++ o) s.0)),
      rw (after_opening_all-append layer xs ys) s.1,
    )
IsWorked-append (Back start) middle end xs ys os ps first second =
    let P : Cipher → Type 0 = λ c. IsWorked c ys ps end in
    let s = subst P first.1 second in
    let long : start.position + 509 * length xs + 509 * length ys ≡ start.position + 509 * length (xs ++ ys) =
    omega (arith, length-append xs ys) in (
      rw (sealed_all-append start.key start.position xs ys)
          (rw (map-append sealed_from)
          (ap (λ (o : List Opened). o ++ ps) first.0
          ∙ ap (λ (o : List Opened). map sealed_from (sealed_all start.key start.position xs) ++ o) s.0)),
      s.1 ∙ ap (λ (p : ℕ). Back (record { key = start.key; position = p })) long,
    )

-- One thing comes out of each body.
pub IsWorked-many : (start end : Cipher) (input : List (List ℕ)) (output : List Opened) → IsOfLayer start
    → IsWorked start input output end → length output ≡ length input
IsWorked-many (Forth start) end input output of worked =
    let out = worked of.layer of.state_is in
    ap length out.0 ∙ length-map (opened_all of.layer input) opened_from ∙ length-opened_all of.layer input
IsWorked-many (Back start) end input output of worked =
    ap length worked.0 ∙ length-map (sealed_all start.key start.position input) sealed_from
    ∙ length-sealed_all start.key start.position input

-- The direction stays.
pub IsWorked-direction : (start end : Cipher) (input : List (List ℕ)) (output : List Opened) → IsOfLayer start
    → IsWorked start input output end → direction_of end ≡ direction_of start
IsWorked-direction (Forth start) end input output of worked = ap direction_of (worked of.layer of.state_is).1
IsWorked-direction (Back start) end input output of worked = ap direction_of worked.1

-- The keystream goes on by 509 bytes for each body.
pub IsWorked-position : (start end : Cipher) (input : List (List ℕ)) (output : List Opened) → IsOfLayer start
    → IsWorked start input output end → position_of end ≡ position_of start + 509 * length input
IsWorked-position (Forth start) end input output of worked =
    let there : of.layer.position ≡ start.stream.position = ap (λ (o : OpenerState). o.stream.position) (sym of.state_is) in
    ap position_of (worked of.layer of.state_is).1 ∙ after_opening_all-position of.layer input
    ∙ ap (λ (p : ℕ). p + 509 * length input) there
IsWorked-position (Back start) end input output of worked = ap position_of worked.1
