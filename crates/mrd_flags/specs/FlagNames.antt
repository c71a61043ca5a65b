-- The acquisition flags by name: the number of each.
-- Assumes nothing.
use Rattle.std.specs.Prelude.{ℕ}
use Rattle.mrd_flags.specs.declared.acquisition_flag.AcquisitionFlag.{AcquisitionFlag}
use Rattle.mrd_flags.specs.declared.acquisition_flag.AcquisitionFlag.TheVariants.{FirstInEncodeStep1, LastInEncodeStep1, FirstInEncodeStep2, LastInEncodeStep2, FirstInAverage, LastInAverage, FirstInSlice, LastInSlice, FirstInContrast, LastInContrast, FirstInPhase, LastInPhase, FirstInRepetition, LastInRepetition, FirstInSet, LastInSet, FirstInSegment, LastInSegment, IsNoiseMeasurement, IsParallelCalibration, IsParallelCalibrationAndImaging, IsReverse, IsNavigationData, IsPhasecorrData, LastInMeasurement, IsHpfeedbackData, IsDummyscanData, IsRtfeedbackData, IsSurfacecoilcorrectionscanData, Compression1, Compression2, Compression3, Compression4, User1, User2, User3, User4, User5, User6, User7, User8}

-- the number of a flag
abbrev pub number_of : AcquisitionFlag → ℕ
number_of FirstInEncodeStep1 = 1
number_of LastInEncodeStep1 = 2
number_of FirstInEncodeStep2 = 3
number_of LastInEncodeStep2 = 4
number_of FirstInAverage = 5
number_of LastInAverage = 6
number_of FirstInSlice = 7
number_of LastInSlice = 8
number_of FirstInContrast = 9
number_of LastInContrast = 10
number_of FirstInPhase = 11
number_of LastInPhase = 12
number_of FirstInRepetition = 13
number_of LastInRepetition = 14
number_of FirstInSet = 15
number_of LastInSet = 16
number_of FirstInSegment = 17
number_of LastInSegment = 18
number_of IsNoiseMeasurement = 19
number_of IsParallelCalibration = 20
number_of IsParallelCalibrationAndImaging = 21
number_of IsReverse = 22
number_of IsNavigationData = 23
number_of IsPhasecorrData = 24
number_of LastInMeasurement = 25
number_of IsHpfeedbackData = 26
number_of IsDummyscanData = 27
number_of IsRtfeedbackData = 28
number_of IsSurfacecoilcorrectionscanData = 29
number_of Compression1 = 53
number_of Compression2 = 54
number_of Compression3 = 55
number_of Compression4 = 56
number_of User1 = 57
number_of User2 = 58
number_of User3 = 59
number_of User4 = 60
number_of User5 = 61
number_of User6 = 62
number_of User7 = 63
number_of User8 = 64
