-- One body through an opener, by whether it is recognised.
use Rattle.std.proofs.Common.{◌≡◌, ℕ, ◌+◌, [], ◌∷◌, ◌++◌, List, true, false, Some, None, refl, ap, ◌∙◌, bit_xor}
use Rattle.std.specs.Simd.Lanes.{zip2}
use Rattle.run_digest.specs.HashState.{HashState, hash_state}
use Rattle.crypto_spec.specs.Keystream.{keystream_part}
use Rattle.crypto_spec.specs.RunningDigest.{digest_message, running_digest}
use Rattle.crypto_spec.specs.HopLayer.{OpeningLayer, layered, is_recognised, opened, after_opening}
use Rattle.hop_crypto.specs.OpenerState.{StreamPlace, OpenerState, opener_of}

-- An opener is that of a layer by its parts.
pub opener_by_parts : (o : OpenerState) (layer : OpeningLayer) → o.stream.key ≡ layer.key
    → o.stream.position ≡ layer.position → o.digest ≡ hash_state (digest_message layer.seed layer.absorbed)
    → o ≡ opener_of layer
opener_by_parts o layer key position digest =
    let made : List ℕ → ℕ → HashState → OpenerState =
    λ k p d. record { stream = record { key = k; position = p }; digest = d } in
    ap (λ (k : List ℕ). made k o.stream.position o.digest) key
    ∙ ap (λ (p : ℕ). made layer.key p o.digest) position
    ∙ ap (λ (d : HashState). made layer.key layer.position d) digest

-- What an opener of a layer makes of a body: plain comes out, and the stream is next.
pub record TookOff (opener : OpenerState) (next : StreamPlace) (layer : OpeningLayer) (body plain : List ℕ) : Type 0 where
  pub stands : opener ≡ opener_of layer
  pub off : plain ≡ zip2 bit_xor body (keystream_part opener.stream.key opener.stream.position 509)
  pub key : next.key ≡ opener.stream.key
  pub position : next.position ≡ opener.stream.position + 509

layer_off : (opener : OpenerState) (next : StreamPlace) (layer : OpeningLayer) (body plain : List ℕ)
    → TookOff opener next layer body plain → plain ≡ layered layer.key layer.position body
unfolding layered
layer_off opener next layer body plain took =
    took.off ∙ ap (λ (o : OpenerState). zip2 bit_xor body (keystream_part o.stream.key o.stream.position 509)) took.stands

pub opened_recognised : (opener : OpenerState) (next : StreamPlace) (layer : OpeningLayer) (body plain : List ℕ)
    → TookOff opener next layer body plain → is_recognised layer.seed layer.absorbed plain ≡ true
    → opened layer body ≡ record { body = plain; recognised = Some (running_digest layer.seed (layer.absorbed ++ plain ∷ [])) }
unfolding opened
opened_recognised opener next layer body plain took recognised =
    rw (← layer_off opener next layer body plain took, recognised) refl

pub opened_other : (opener : OpenerState) (next : StreamPlace) (layer : OpeningLayer) (body plain : List ℕ)
    → TookOff opener next layer body plain → is_recognised layer.seed layer.absorbed plain ≡ false
    → opened layer body ≡ record { body = plain; recognised = None }
unfolding opened
opened_other opener next layer body plain took other = rw (← layer_off opener next layer body plain took, other) refl

pub state_recognised : (opener : OpenerState) (next : StreamPlace) (digest : HashState) (layer : OpeningLayer)
    (body plain : List ℕ)
    → TookOff opener next layer body plain → is_recognised layer.seed layer.absorbed plain ≡ true
    → digest ≡ hash_state (digest_message layer.seed (layer.absorbed ++ plain ∷ []))
    → record { stream = next; digest = digest } ≡ opener_of (after_opening layer body)
unfolding after_opening
state_recognised opener next digest layer body plain took recognised gone_by =
    rw (← layer_off opener next layer body plain took, recognised)
    (opener_by_parts _ (record layer { position = layer.position + 509; absorbed = layer.absorbed ++ plain ∷ [] })
    (took.key ∙ ap (λ (o : OpenerState). o.stream.key) took.stands)
    (took.position ∙ ap (λ (o : OpenerState). o.stream.position + 509) took.stands) gone_by)

pub state_other : (opener : OpenerState) (next : StreamPlace) (layer : OpeningLayer) (body plain : List ℕ)
    → TookOff opener next layer body plain → is_recognised layer.seed layer.absorbed plain ≡ false
    → record { stream = next; digest = opener.digest } ≡ opener_of (after_opening layer body)
unfolding after_opening
state_other opener next layer body plain took other =
    rw (← layer_off opener next layer body plain took, other)
    (opener_by_parts _ (record layer { position = layer.position + 509 })
    (took.key ∙ ap (λ (o : OpenerState). o.stream.key) took.stands)
    (took.position ∙ ap (λ (o : OpenerState). o.stream.position + 509) took.stands)
    (ap (λ (o : OpenerState). o.digest) took.stands))
