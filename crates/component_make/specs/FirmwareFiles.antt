-- The two component files that a lock of the firmware makes.
use Rattle.std.specs.Prelude.{ℕ, List, [], ◌∷◌, ◌++◌, codes}
use Rattle.component_make.specs.declared.kind.FirmwareKind.{FirmwareKind}
use Rattle.component_make.specs.declared.kind.FirmwareKind.TheVariants.{Code, Config}

-- the PCRs into which the firmware measures its code, and what configures it (TCG PC Client Platform
-- Firmware Profile)
abbrev pub pcrs_in : FirmwareKind → List ℕ
pcrs_in Code = 0 ∷ 2 ∷ []
pcrs_in Config = 1 ∷ 3 ∷ []

-- the mask of these PCRs: bit i stands for PCR i
abbrev pub mask_in : FirmwareKind → ℕ
mask_in Code = 5
mask_in Config = 10

-- the components to which the two files belong. They stand in the order of their names
abbrev pub early_component : FirmwareKind → List ℕ
early_component Code = codes "250-firmware-code-early"
early_component Config = codes "250-firmware-config-early"

abbrev pub late_component : FirmwareKind → List ℕ
late_component Code = codes "550-firmware-code-late"
late_component Config = codes "550-firmware-config-late"

-- the path of a component's variant in a folder (systemd.pcrlock(5))
unfoldable pub variant_path : List ℕ → List ℕ → List ℕ → List ℕ
variant_path folder component variant =
    folder ++ codes "/" ++ component ++ codes ".pcrlock.d/" ++ variant ++ codes ".pcrlock"

-- the paths of the two files
abbrev pub early_path : FirmwareKind → List ℕ → List ℕ → List ℕ
early_path kind folder variant = variant_path folder (early_component kind) variant

abbrev pub late_path : FirmwareKind → List ℕ → List ℕ → List ℕ
late_path kind folder variant = variant_path folder (late_component kind) variant
