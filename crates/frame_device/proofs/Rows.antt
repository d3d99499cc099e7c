-- The next hop from 10.0.0.1 with the mask 255.255.255.0 and the router 10.0.0.254, worked by hand; and with other masks and routers.
use Rattle.frame_device.proofs.Prelude.{◌≡◌, ℕ, List, [], ◌∷◌, refl, Network, next_hop}

abbrev own : List ℕ
own = 10 ∷ 0 ∷ 0 ∷ 1 ∷ []

abbrev near : List ℕ
near = 10 ∷ 0 ∷ 0 ∷ 77 ∷ []

abbrev far : List ℕ
far = 192 ∷ 168 ∷ 7 ∷ 1 ∷ []

abbrev router : List ℕ
router = 10 ∷ 0 ∷ 0 ∷ 254 ∷ []

abbrev network : List ℕ → List ℕ → Network
network mask router = record { mask = record { 0 = mask }; router = record { 0 = router } }

abbrev home : Network
home = network (255 ∷ 255 ∷ 255 ∷ 0 ∷ []) router

pub near_itself : next_hop home own near ≡ near
near_itself = refl

pub far_by_router : next_hop home own far ≡ router
far_by_router = refl

-- the network of the third byte beside that of the host, and all 255
pub beside_by_router : next_hop home own (10 ∷ 0 ∷ 1 ∷ 77 ∷ []) ≡ router
beside_by_router = refl

pub broadcast_by_router : next_hop home own (255 ∷ 255 ∷ 255 ∷ 255 ∷ []) ≡ router
broadcast_by_router = refl

-- with 255.255.255.192 an address is beside the host whose last byte is 64 or more
pub half_byte_near : next_hop (network (255 ∷ 255 ∷ 255 ∷ 192 ∷ []) router) own (10 ∷ 0 ∷ 0 ∷ 63 ∷ []) ≡ 10 ∷ 0 ∷ 0 ∷ 63 ∷ []
half_byte_near = refl

pub half_byte_far : next_hop (network (255 ∷ 255 ∷ 255 ∷ 192 ∷ []) router) own (10 ∷ 0 ∷ 0 ∷ 64 ∷ []) ≡ router
half_byte_far = refl

-- without a mask, or without a router
pub without_mask : next_hop (network (0 ∷ 0 ∷ 0 ∷ 0 ∷ []) router) own far ≡ far
without_mask = refl

pub without_router : next_hop (network (255 ∷ 255 ∷ 255 ∷ 0 ∷ []) (0 ∷ 0 ∷ 0 ∷ 0 ∷ [])) own far ≡ far
without_router = refl
