-- The keys of a hop as the crate's types hold them.
use Rattle.crypto_spec.specs.KeyDerivation.{KeyMaterial}
use Rattle.kdf_tor.specs.declared.LayerKeys.{LayerKeys}
use Rattle.kdf_tor.specs.declared.HopKeys.{HopKeys}

-- The digest seeds and cipher keys of key material, by their names.
abbrev pub layer_keys_of : KeyMaterial → LayerKeys
layer_keys_of k = record { df = k.df; db = k.db; kf = k.kf; kb = k.kb }

-- All of the key material, by its names.
abbrev pub hop_keys_of : KeyMaterial → HopKeys
hop_keys_of k = record { kh = k.kh; layer = layer_keys_of k }
