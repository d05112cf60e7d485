-- Worked examples: the PNM files of small pictures, by hand from Netpbm's pages on PGM, PPM and PAM. A sample has one byte up to a Maxval
-- of 255, and two from 256 on, the more significant first.
use Rattle.std.proofs.Common.{◌≡◌, ℕ, List, [], ◌∷◌, ◌++◌, ap, ◌∙◌, lit<}
use Rattle.std.specs.Prelude.{codes, decimal}
use Rattle.std.proofs.lemmas.Fmt.{decimal_digit, decimal-digits_of}
use Rattle.jls_write.specs.Picture.{WholePicture}
use Rattle.jls_write.specs.Pnm.{pnm}

-- a picture of this precision, width and height, whose components have these lines
abbrev picture : ℕ → ℕ → ℕ → List ℕ → List (List (List ℕ)) → WholePicture
picture precision width height ids lines =
    record { shape = record { precision = precision; width = width; height = height; ids = ids }; lines = lines }

record PnmExamples : Type 0 where
  -- PGM: 5000 is 0x1388
  one_component : pnm (picture 16 2 1 (1 ∷ []) (((5000 ∷ 65535 ∷ []) ∷ []) ∷ []))
      ≡ codes "P5\n2 1\n65535\n" ++ (0x13 ∷ 0x88 ∷ 0xFF ∷ 0xFF ∷ [])
  -- PPM: two rows of one column, and in each the three components in turn
  three_components : pnm (picture 16 1 2 (1 ∷ 2 ∷ 3 ∷ [])
      (((1 ∷ []) ∷ (4 ∷ []) ∷ []) ∷ ((256 ∷ []) ∷ (258 ∷ []) ∷ []) ∷ ((65535 ∷ []) ∷ (0 ∷ []) ∷ []) ∷ []))
      ≡ codes "P6\n1 2\n65535\n" ++ (0 ∷ 1 ∷ 1 ∷ 0 ∷ 0xFF ∷ 0xFF ∷ 0 ∷ 4 ∷ 1 ∷ 2 ∷ 0 ∷ 0 ∷ [])
  -- PAM of two components, one row of two columns
  two_components : pnm (picture 16 2 1 (1 ∷ 2 ∷ []) (((5000 ∷ 2 ∷ []) ∷ []) ∷ ((65535 ∷ 0 ∷ []) ∷ []) ∷ []))
      ≡ codes "P7\nWIDTH 2\nHEIGHT 1\nDEPTH 2\nMAXVAL 65535\nENDHDR\n" ++ (0x13 ∷ 0x88 ∷ 0xFF ∷ 0xFF ∷ 0 ∷ 2 ∷ 0 ∷ 0 ∷ [])
  -- PAM of four components, one row of one column
  four_components : pnm (picture 16 1 1 (1 ∷ 2 ∷ 3 ∷ 4 ∷ []) (((1 ∷ []) ∷ []) ∷ ((2 ∷ []) ∷ []) ∷ ((3 ∷ []) ∷ []) ∷ ((4 ∷ []) ∷ []) ∷ []))
      ≡ codes "P7\nWIDTH 1\nHEIGHT 1\nDEPTH 4\nMAXVAL 65535\nENDHDR\n" ++ (0 ∷ 1 ∷ 0 ∷ 2 ∷ 0 ∷ 3 ∷ 0 ∷ 4 ∷ [])
  -- the last precision of one byte a sample, and the first of two
  eight_bits : pnm (picture 8 1 1 (1 ∷ []) (((200 ∷ []) ∷ []) ∷ [])) ≡ codes "P5\n1 1\n255\n" ++ (200 ∷ [])
  nine_bits : pnm (picture 9 1 1 (1 ∷ []) (((200 ∷ []) ∷ []) ∷ [])) ≡ codes "P5\n1 1\n511\n" ++ (0 ∷ 200 ∷ [])
  -- the width stands before the height
  sizes : pnm (picture 8 2 3 (1 ∷ []) (((1 ∷ 2 ∷ []) ∷ (3 ∷ 4 ∷ []) ∷ (5 ∷ 6 ∷ []) ∷ []) ∷ []))
      ≡ codes "P5\n2 3\n255\n" ++ (1 ∷ 2 ∷ 3 ∷ 4 ∷ 5 ∷ 6 ∷ [])

-- The numbers of the headers, as they are printed --------------------------------------------------------------------

d1 : decimal 1 ≡ codes "1"
d1 = decimal_digit 1 (lit< tt)

d2 : decimal 2 ≡ codes "2"
d2 = decimal_digit 2 (lit< tt)

d3 : decimal 3 ≡ codes "3"
d3 = decimal_digit 3 (lit< tt)

d4 : decimal 4 ≡ codes "4"
d4 = decimal_digit 4 (lit< tt)

d255 : decimal 255 ≡ codes "255"
d255 = decimal-digits_of 255 (lit< tt) (lit< tt)

d511 : decimal 511 ≡ codes "511"
d511 = decimal-digits_of 511 (lit< tt) (lit< tt)

d65535 : decimal 65535 ≡ codes "65535"
d65535 = decimal-digits_of 65535 (lit< tt) (lit< tt)

-- files by their numbers: the width, the height and Maxval; and of PAM the depth before Maxval
abbrev plain : List ℕ → List ℕ → List ℕ → List ℕ → List ℕ → List ℕ
plain magic raster w h m = (magic ++ w ++ (codes " " ++ h ++ codes "\n") ++ ([] ++ m ++ codes "\n")) ++ raster

abbrev pam : List ℕ → List ℕ → List ℕ → List ℕ → List ℕ → List ℕ
pam raster w h d m =
    (codes "P7\n" ++ (codes "WIDTH " ++ w ++ codes "\n") ++ (codes "HEIGHT " ++ h ++ codes "\n") ++ (codes "DEPTH " ++ d ++ codes "\n")
    ++ (codes "MAXVAL " ++ m ++ codes "\n") ++ codes "ENDHDR\n")
    ++ raster

plain_is : (magic raster : List ℕ) {w h m ws hs ms : List ℕ} → w ≡ ws → h ≡ hs → m ≡ ms
    → plain magic raster w h m ≡ plain magic raster ws hs ms
plain_is magic raster {w} {h} {m} {ws} {hs} {ms} a b c =
    ap (λ x. plain magic raster x h m) a ∙ ap (λ x. plain magic raster ws x m) b ∙ ap (λ x. plain magic raster ws hs x) c

pam_is : (raster : List ℕ) {w h d m ws hs ds ms : List ℕ} → w ≡ ws → h ≡ hs → d ≡ ds → m ≡ ms
    → pam raster w h d m ≡ pam raster ws hs ds ms
pam_is raster {w} {h} {d} {m} {ws} {hs} {ds} {ms} a b c e =
    ap (λ x. pam raster x h d m) a ∙ ap (λ x. pam raster ws x d m) b ∙ ap (λ x. pam raster ws hs x m) c
    ∙ ap (λ x. pam raster ws hs ds x) e

pnm_examples : PnmExamples
pnm_examples = record {
  one_component = plain_is (codes "P5\n") (0x13 ∷ 0x88 ∷ 0xFF ∷ 0xFF ∷ []) d2 d1 d65535;
  three_components = plain_is (codes "P6\n") (0 ∷ 1 ∷ 1 ∷ 0 ∷ 0xFF ∷ 0xFF ∷ 0 ∷ 4 ∷ 1 ∷ 2 ∷ 0 ∷ 0 ∷ []) d1 d2 d65535;
  two_components = pam_is (0x13 ∷ 0x88 ∷ 0xFF ∷ 0xFF ∷ 0 ∷ 2 ∷ 0 ∷ 0 ∷ []) d2 d1 d2 d65535;
  four_components = pam_is (0 ∷ 1 ∷ 0 ∷ 2 ∷ 0 ∷ 3 ∷ 0 ∷ 4 ∷ []) d1 d1 d4 d65535;
  eight_bits = plain_is (codes "P5\n") (200 ∷ []) d1 d1 d255;
  nine_bits = plain_is (codes "P5\n") (0 ∷ 200 ∷ []) d1 d1 d511;
  sizes = plain_is (codes "P5\n") (1 ∷ 2 ∷ 3 ∷ 4 ∷ 5 ∷ 6 ∷ []) d2 d3 d255;
}
