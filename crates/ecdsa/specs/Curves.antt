-- The curves y² = x³ + a x + b over the integers modulo p with a = -3, each with the point G of the prime
-- order n (SP 800-186, 3.2.1.3 to 3.2.1.5: P-256, P-384 and P-521; SEC 2 calls them secp256r1, secp384r1
-- and secp521r1). Their cofactor is 1.
use Rattle.std.specs.Prelude.{ℕ, ◌-◌, ◌^◌}
use Rattle.ecdsa.specs.declared.Curve.{Curve}
use Rattle.ecdsa.specs.declared.Curve.TheVariants.{P256, P384, P521}
use Rattle.ecdsa.specs.Group.{Point, Affine, add, multiple}

-- p
unfoldable pub field_prime : Curve → ℕ
field_prime P256 = 0xFFFFFFFF_00000001_00000000_00000000_00000000_FFFFFFFF_FFFFFFFF_FFFFFFFF
field_prime P384 = 0xFFFFFFFF_FFFFFFFF_FFFFFFFF_FFFFFFFF_FFFFFFFF_FFFFFFFF_FFFFFFFF_FFFFFFFE_FFFFFFFF_00000000_00000000_FFFFFFFF
field_prime P521 = 2 ^ 521 - 1

-- a
abbrev pub coefficient_a : Curve → ℕ
coefficient_a curve = field_prime curve - 3

-- b
unfoldable pub coefficient_b : Curve → ℕ
coefficient_b P256 = 0x5AC635D8_AA3A93E7_B3EBBD55_769886BC_651D06B0_CC53B0F6_3BCE3C3E_27D2604B
coefficient_b P384 = 0xB3312FA7_E23EE7E4_988E056B_E3F82D19_181D9C6E_FE814112_0314088F_5013875A_C656398D_8A2ED19D_2A85C8ED_D3EC2AEF
coefficient_b P521 = 0x00000051_953EB961_8E1C9A1F_929A21A0_B68540EE_A2DA725B_99B315F3_B8B48991_8EF109E1_56193951_EC7E937B_1652C0BD_3BB1BF07_3573DF88_3D2C34F1_EF451FD4_6B503F00

-- the coordinates of G
unfoldable pub base_x : Curve → ℕ
base_x P256 = 0x6B17D1F2_E12C4247_F8BCE6E5_63A440F2_77037D81_2DEB33A0_F4A13945_D898C296
base_x P384 = 0xAA87CA22_BE8B0537_8EB1C71E_F320AD74_6E1D3B62_8BA79B98_59F741E0_82542A38_5502F25D_BF55296C_3A545E38_72760AB7
base_x P521 = 0x000000C6_858E06B7_0404E9CD_9E3ECB66_2395B442_9C648139_053FB521_F828AF60_6B4D3DBA_A14B5E77_EFE75928_FE1DC127_A2FFA8DE_3348B3C1_856A429B_F97E7E31_C2E5BD66

unfoldable pub base_y : Curve → ℕ
base_y P256 = 0x4FE342E2_FE1A7F9B_8EE7EB4A_7C0F9E16_2BCE3357_6B315ECE_CBB64068_37BF51F5
base_y P384 = 0x3617DE4A_96262C6F_5D9E98BF_9292DC29_F8F41DBD_289A147C_E9DA3113_B5F0B8C0_0A60B1CE_1D7E819D_7A431D7C_90EA0E5F
base_y P521 = 0x00000118_39296A78_9A3BC004_5C8A5FB4_2C7D1BD9_98F54449_579B4468_17AFBD17_273E662C_97EE7299_5EF42640_C550B901_3FAD0761_353C7086_A272C240_88BE9476_9FD16650

-- n
unfoldable pub order : Curve → ℕ
order P256 = 0xFFFFFFFF_00000000_FFFFFFFF_FFFFFFFF_BCE6FAAD_A7179E84_F3B9CAC2_FC632551
order P384 = 0xFFFFFFFF_FFFFFFFF_FFFFFFFF_FFFFFFFF_FFFFFFFF_FFFFFFFF_C7634D81_F4372DDF_581A0DB2_48B0A77A_ECEC196A_CCC52973
order P521 = 0x000001FF_FFFFFFFF_FFFFFFFF_FFFFFFFF_FFFFFFFF_FFFFFFFF_FFFFFFFF_FFFFFFFF_FFFFFFFA_51868783_BF2F966B_7FCC0148_F709A5D0_3BB5C9B8_899C47AE_BB6FB71E_91386409

-- the number of octets of a number below p, and the number of binary digits of n
abbrev pub field_octets : Curve → ℕ
field_octets P256 = 32
field_octets P384 = 48
field_octets P521 = 66

abbrev pub order_bits : Curve → ℕ
order_bits P256 = 256
order_bits P384 = 384
order_bits P521 = 521

-- G
abbrev pub base_point : Curve → Point
base_point curve = Affine (base_x curve) (base_y curve)

-- the sum of two points of the curve, and [k]P of a k below 2 to the number of binary digits of n
abbrev pub sum : Curve → Point → Point → Point
sum curve P Q = add (field_prime curve) (coefficient_a curve) P Q

abbrev pub times : Curve → ℕ → Point → Point
times curve k P = multiple (field_prime curve) (coefficient_a curve) (order_bits curve) k P

-- [j]G + [k]Q
abbrev pub combination : Curve → ℕ → ℕ → Point → Point
combination curve j k Q = sum curve (times curve j (base_point curve)) (times curve k Q)
