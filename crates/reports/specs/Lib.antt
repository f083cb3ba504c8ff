-- The body of a LAYOUTRETURN: Device, Statistics, Report; Cursors, ReportSteps and StatisticsSteps are models of the code.
-- Walk: that their steps visit each device error and each statistics record.
pub mod Device
pub mod Statistics
pub mod Report
pub mod Cursors
pub mod StatisticsSteps
pub mod ReportSteps
pub mod Walk
