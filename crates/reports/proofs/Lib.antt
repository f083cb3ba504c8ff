-- The body of a LAYOUTRETURN. Devices: device ids. Statuses: the status of a report and of its parts. Cursors: the cursor over counted records. ReportModel, Reports:
-- the error records. StatisticsWalk: the statistics records. Walk: each is visited. ReportExamples: computed examples.
pub mod Devices
pub mod Statuses
pub mod Cursors
pub mod ReportModel
pub mod StatisticsWalk
pub mod Reports
pub mod Walk
pub mod ReportExamples
